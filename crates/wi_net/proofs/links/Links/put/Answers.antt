use Rattle.std.proofs.Common.{◌≡◌, ap, None, position, List, ℕ}
use Rattle.std.specs.Prelude.{◌&&◌, ◌==◌}
use Rattle.std.proofs.lemmas.Result.{IfOk-at_ok}
use Rattle.indexmap.specs.IndexSet.{insert_key}
use Rattle.wi_net.specs.declared.parts.Link.{Link}
use Rattle.wi_net.specs.Ends.{is_out, is_in}
use Rattle.wi_net.specs.private.Ends.{out_key, in_key}
use Rattle.wi_net.proofs.FindingLemmas.{pair_added}
use Rattle.wi_net.proofs.links.Links.put.Goals as goal

pub invariant_of-self : goal.invariant_of-self
invariant_of-self c =
    let links : c.self.inside.links.items ≡ c.args.self.now.0 = ap (λ (p : List Link × ℕ). p.0) c.self.view_is in
    let free_out : position (is_out c.args.link.from c.args.link.out_if) c.self.inside.links.items ≡ None = rw links c.requires.free_out in
    let free_in : position (is_in c.args.link.to c.args.link.in_if) c.self.inside.links.items ≡ None = rw links c.requires.free_in in
    let made_in : c.insert.new.self.keys ≡ insert_key (λ (j k : ℕ × ℕ). (j.0 == k.0) && (j.1 == k.1)) c.self.inside.ins.keys (in_key c.args.link) = IfOk-at_ok _ c.unwrap-new.ensures c.insert.ensures.keys in
    let made_out : c.insert-2.new.self.keys ≡ insert_key (λ (j k : ℕ × ℕ). (j.0 == k.0) && (j.1 == k.1)) c.self.inside.outs.keys (out_key c.args.link) = IfOk-at_ok _ c.unwrap-new-2.ensures c.insert-2.ensures.keys in
    rw c.push_reserved.ensures.items (record {
      outs_are = pair_added out_key c.self.inside.outs.keys _ c.self.inside.links.items c.args.link c.self.invariant.outs_are free_out made_out;
      ins_are = pair_added in_key c.self.inside.ins.keys _ c.self.inside.links.items c.args.link c.self.invariant.ins_are free_in made_in;
    })
