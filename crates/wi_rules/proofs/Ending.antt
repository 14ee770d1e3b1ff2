-- How a run ends on a link: the rules that end it, and what follows, are an end that can be, in both directions.
use Rattle.std.proofs.Common.{◌≡◌, ℕ, suc, ◌+◌, Bool, true, false, List, [], ◌∷◌, ◌++◌, length, slice_get, Option, Some, None, ◌⊎◌, inl, inr, refl, arith, ap, sym, ◌∙◌, subst}
use Rattle.std.specs.Prelude.{is_none}
use Rattle.std.specs.Option.{option_map, option_map_or}
use Rattle.std.proofs.lemmas.Bool.{and_parts, and_from}
use Rattle.wi_labels.specs.declared.label.Label.{Label}
use Rattle.wi_labels.specs.Header.{Entry, after_ops, is_valid_header}
use Rattle.wi_net.specs.declared.parts.LinkId.{LinkId}
use Rattle.wi_net.specs.declared.parts.Member.{Member}
use Rattle.wi_net.specs.Net.{entry, before, labels_known}
use Rattle.wi_weight.specs.Weights.{plus}
use Rattle.wi_pds.specs.declared.rule.Word2.{Word2}
use Rattle.wi_pds.specs.declared.rule.Word2.TheVariants.{One}
use Rattle.wi_pds.specs.Runs.{symbols}
use Rattle.wi_world.specs.declared.run.Step.{Step}
use Rattle.wi_world.specs.declared.run.End.{End}
use Rattle.wi_world.specs.declared.run.End.TheVariants.{Arrives, Inactive, Undefined}
use Rattle.wi_world.specs.Moves.{Location, may_be_down, is_possible, is_undefined, can_end}
use Rattle.wi_world.specs.Runs.{work_before, end_work}
use Rattle.wi_world.specs.Holds.{is_dropped}
use Rattle.wi_world.proofs.Allowed.{Names, member_named, Possible, possible_parts}
use Rattle.wi_rules.specs.declared.spot.Origin.{Origin}
use Rattle.wi_rules.specs.declared.spot.Origin.TheVariants.{Ending}
use Rattle.wi_rules.specs.declared.spot.Spot.{Spot}
use Rattle.wi_rules.specs.declared.spot.Spot.TheVariants.{Close, OnLink}
use Rattle.wi_rules.specs.Rules.{Encoding, SpotRule, ending, member_number, may_use, inactive_rules, lost_by, undefined_rules, end_rules, each_member, Accepts, IsEncoding}
use Rattle.wi_rules.specs.Goals.{main_origin, end_share_at}
use Rattle.wi_rules.proofs.Lists.{In, in_left, in_right, in_either, if_in, option_in, one_in}
use Rattle.wi_rules.proofs.Members.{in_each_member, ForMember, each_member_in}
use Rattle.wi_rules.proofs.Ends.{Ends, stack, ending_step, ending_on}
use Rattle.wi_rules.proofs.Ops.{Stuck, stuck_from, stuck_to}
use Rattle.wi_rules.proofs.Header.{labels_of}
use Rattle.wi_rules.proofs.HopRun.{Listed, numbered, possible_use, use_possible, Over, in_end}
use Rattle.wi_rules.proofs.Close.{Read, close_forward, close_backward}
use Rattle.wi_rules.proofs.Lost.{any_accepted, Leads, lost_forward, Stopped, lost_backward}

-- the rules that end a run: the packet arrives, or no group is active, or an operation of a member isn't defined
in_arrival : (s : Encoding) (e : LinkId) (l : Label) → s.drops ≡ false → In (end_rules s e l) (ending s e l Arrives (Close 0) (One (suc l.0)))
in_arrival s e l d = rw d (inl refl)

in_drops : (s : Encoding) (e : LinkId) (l : Label) (rule : SpotRule) → s.drops ≡ true → In (inactive_rules s e l ++ each_member (undefined_rules s e l) (entry s.net e l)) rule → In (end_rules s e l) rule
in_drops s e l rule d i = rw d i

in_inactive : (s : Encoding) (e : LinkId) (l : Label) → s.drops ≡ true → may_be_down s.net s.bounds (before s.net (entry s.net e l) (length (entry s.net e l))) ≡ true → In (end_rules s e l) (ending s e l Inactive (Close 0) (One (suc l.0)))
in_inactive s e l d can =
    let rule : SpotRule = ending s e l Inactive (Close 0) (One (suc l.0)) in
    in_drops s e l rule d (in_left (inactive_rules s e l) (each_member (undefined_rules s e l) (entry s.net e l)) rule (rw can (inl refl)))

in_undefined : (s : Encoding) (e : LinkId) (l : Label) (step : Step) (group : List Member) (member : Member) (way : Spot × Word2) → s.drops ≡ true → slice_get (entry s.net e l) step.group ≡ Some group → slice_get group step.member ≡ Some member
    → may_use s.net s.bounds (entry s.net e l) step.group member.link ≡ true → lost_by s.net member.ops (member_number s.net e l step) 0 l.0 ≡ Some way → In (end_rules s e l) (ending s e l (Undefined step) way.0 way.1)
in_undefined s e l step group member way d g m usable w =
    let rule : SpotRule = ending s e l (Undefined step) way.0 way.1 in
    let its : In (undefined_rules s e l step member) rule = rw usable (rw w (inl refl)) in
    in_drops s e l rule d (in_right (inactive_rules s e l) (each_member (undefined_rules s e l) (entry s.net e l)) rule (in_each_member (undefined_rules s e l) (entry s.net e l) step group member rule g m its))

module _ (s : Encoding) (k : IsEncoding s) where
  -- and what such a rule is made of
  pub record IsArrival (e : LinkId) (l : Label) (rule : SpotRule) : Type 0 where
    pub drops : s.drops ≡ false
    pub is : ending s e l Arrives (Close 0) (One (suc l.0)) ≡ rule

  pub record IsInactive (e : LinkId) (l : Label) (rule : SpotRule) : Type 0 where
    pub drops : s.drops ≡ true
    pub down : may_be_down s.net s.bounds (before s.net (entry s.net e l) (length (entry s.net e l))) ≡ true
    pub is : ending s e l Inactive (Close 0) (One (suc l.0)) ≡ rule

  pub record IsUndefined (e : LinkId) (l : Label) (rule : SpotRule) : Type 0 where
    pub drops : s.drops ≡ true
    pub step : Step
    pub names : Listed s k e l step
    pub usable : may_use s.net s.bounds (entry s.net e l) step.group names.member.link ≡ true
    pub way : Spot × Word2
    pub way_is : lost_by s.net names.member.ops (member_number s.net e l step) 0 l.0 ≡ Some way
    pub is : ending s e l (Undefined step) way.0 way.1 ≡ rule

  undefined_in : (e : LinkId) (l : Label) (rule : SpotRule) → s.drops ≡ true → In (each_member (undefined_rules s e l) (entry s.net e l)) rule → IsUndefined e l rule
  undefined_in e l rule d i =
      let a : ForMember (undefined_rules s e l) (entry s.net e l) rule = each_member_in (undefined_rules s e l) (entry s.net e l) rule i in
      let to_rule : Spot × Word2 → List SpotRule = λ way. ending s e l (Undefined a.step) way.0 way.1 ∷ [] in
      let b = if_in (may_use s.net s.bounds (entry s.net e l) a.step.group a.member.link) (option_map_or to_rule (lost_by s.net a.member.ops (member_number s.net e l a.step) 0 l.0) []) rule a.there in
      let c = option_in to_rule (lost_by s.net a.member.ops (member_number s.net e l a.step) 0 l.0) rule b.1 in
      record {
        drops = d;
        step = a.step;
        names = record { group = a.group; member = a.member; group_is = a.group_is; member_is = a.member_is };
        usable = b.0;
        way = c.0;
        way_is = c.1;
        is = one_in (ending s e l (Undefined a.step) c.0.0 c.0.1) rule c.2;
      }

  pub end_in : (e : LinkId) (l : Label) (rule : SpotRule) → In (end_rules s e l) rule → IsArrival e l rule ⊎ (IsInactive e l rule ⊎ IsUndefined e l rule)
  end_in e l rule i = go s.drops refl
    where
      go : (b : Bool) → s.drops ≡ b → IsArrival e l rule ⊎ (IsInactive e l rule ⊎ IsUndefined e l rule)
      go false d = inl (record { drops = d; is = one_in (ending s e l Arrives (Close 0) (One (suc l.0))) rule (rw d at i) })
      go true d =
          elim (in_either (inactive_rules s e l) (each_member (undefined_rules s e l) (entry s.net e l)) rule (rw d at i)) [
            | inl a ↦
                (let b = if_in (may_be_down s.net s.bounds (before s.net (entry s.net e l) (length (entry s.net e l)))) (ending s e l Inactive (Close 0) (One (suc l.0)) ∷ []) rule a in
                inr (inl (record { drops = d; down = b.0; is = one_in (ending s e l Inactive (Close 0) (One (suc l.0))) rule b.1 })))
            | inr a ↦ inr (inr (undefined_in e l rule d a))
          ]

  -- a member's operations aren't all defined just where one of them isn't when its turn comes
  undefined_stuck : (at : Location) (step : Step) (n : Names s.net at step) → is_undefined s.net at step ≡ true → Stuck n.member.ops at.1
  undefined_stuck at step n u = go (after_ops n.member.ops at.1) refl
    where
      u1 : is_none {T = Location} (option_map (λ (next : List Entry). (n.member.link, next)) (after_ops n.member.ops at.1)) ≡ true
      u1 = rw (member_named s.net at step n) at u

      go : (o : Option (List Entry)) → after_ops n.member.ops at.1 ≡ o → Stuck n.member.ops at.1
      go None a = stuck_from n.member.ops at.1 a
      go (Some next) a = let no : false ≡ true = rw a at u1 in cc

  stuck_undefined : (at : Location) (step : Step) (n : Names s.net at step) → Stuck n.member.ops at.1 → is_undefined s.net at step ≡ true
  stuck_undefined at step n st = rw (member_named s.net at step n) (rw (stuck_to n.member.ops at.1 st) refl)

  -- what is left to do at a named member
  work_named : (at : Location) (step : Step) (n : Names s.net at step) → end_work s.net (Undefined step) at ≡ work_before n.member.ops at.1
  work_named at step n = rw (member_named s.net at step n) refl

  -- an end after which the header is read
  closes : (e : LinkId) (q : ℕ) (top : Entry) (below : List Entry) (end : End) → labels_known s.net (top ∷ below) ≡ true → s.path.accepts q ≡ true → In (end_rules s e top.0) (ending s e top.0 end (Close 0) (One (suc top.0.0))) → Accepts s.last (labels_of (top ∷ below))
      → end_work s.net end (e, top ∷ below) ≡ length (top ∷ below) → Ends s (OnLink e q) (stack (top ∷ below)) (end_share_at s (e, top ∷ below) end) (Ending end ∷ []) (end_work s.net end (e, top ∷ below) + 2)
  closes e q top below end known a there l w =
      let all : Ends s (OnLink e q) (stack (top ∷ below)) (s.end_share e top.0 end) (Ending end ∷ []) (suc (suc (length (top ∷ below)))) =
      ending_step s (OnLink e q) (Close 0) (One (suc top.0.0)) (suc top.0.0) (stack below) e top.0 end (suc (length (top ∷ below))) (in_end s k e q top below (ending s e top.0 end (Close 0) (One (suc top.0.0))) known a there) (close_forward s (top ∷ below) 0 l.0 known l.1 l.2) (k.end_length e top.0 end) in
      let number : end_work s.net end (e, top ∷ below) + 2 ≡ suc (suc (length (top ∷ below))) = omega (arith, w) in
      rw number all

  -- An end that can be where the path's automaton accepts is made by rules, of the end's share.
  pub end_forward : (e : LinkId) (q : ℕ) (top : Entry) (below : List Entry) (end : End) → is_valid_header (top ∷ below) ≡ true → labels_known s.net (top ∷ below) ≡ true → s.path.accepts q ≡ true
      → can_end s.net s.bounds (e, top ∷ below) end ≡ true → is_dropped end ≡ s.drops → Accepts s.last (labels_of (top ∷ below))
      → Ends s (OnLink e q) (stack (top ∷ below)) (end_share_at s (e, top ∷ below) end) (Ending end ∷ []) (end_work s.net end (e, top ∷ below) + 2)
  end_forward e q top below Arrives v known a can d l =
      closes e q top below Arrives known a (in_arrival s e top.0 (sym d)) l refl
  end_forward e q top below Inactive v known a can d l =
      closes e q top below Inactive known a (in_inactive s e top.0 (sym d) can) l refl
  end_forward e q top below (Undefined step) v known a can d l =
      let parts = and_parts (is_possible s.net s.bounds (e, top ∷ below) step) (is_undefined s.net (e, top ∷ below) step) can in
      let p : Possible s.net s.bounds (e, top ∷ below) step = possible_parts s.net s.bounds (e, top ∷ below) step parts.0 in
      let n : Listed s k e top.0 step = record { group = p.named.group; member = p.named.member; group_is = p.named.group_is; member_is = p.named.member_is } in
      let g : Leads s k n.member (member_number s.net e top.0 step) 0 n.member.ops top below =
      lost_forward s k (sym d) n.member (member_number s.net e top.0 step) (numbered s k e top.0 step n) n.member.ops 0 top below refl v known (undefined_stuck (e, top ∷ below) step p.named parts.1) in
      let there : In (end_rules s e top.0) (ending s e top.0 (Undefined step) g.way.0 g.way.1) = in_undefined s e top.0 step n.group n.member g.way (sym d) n.group_is n.member_is (possible_use s k e top below step p) g.way_is in
      let all : Ends s (OnLink e q) (stack (top ∷ below)) (s.end_share e top.0 (Undefined step)) (Ending (Undefined step) ∷ []) (suc g.count) =
      ending_step s (OnLink e q) g.way.0 g.way.1 (suc top.0.0) (stack below) e top.0 (Undefined step) g.count (in_end s k e q top below (ending s e top.0 (Undefined step) g.way.0 g.way.1) known a there) g.ends (k.end_length e top.0 (Undefined step)) in
      let number : end_work s.net (Undefined step) (e, top ∷ below) + 2 ≡ suc g.count = ap (λ (x : ℕ). x + 2) (work_named (e, top ∷ below) step p.named) ∙ sym g.number in
      rw number all

  -- how a run has ended on a link
  pub record Ended (e : LinkId) (h : List Entry) (t : List ℕ) (os : List Origin) (n : ℕ) : Type 0 where
    pub end : End
    pub can : can_end s.net s.bounds (e, h) end ≡ true
    pub dropped : is_dropped end ≡ s.drops
    pub last : Accepts s.last (labels_of h)
    pub share : t ≡ end_share_at s (e, h) end
    pub tells : os ≡ Ending end ∷ []
    pub number : n ≡ end_work s.net end (e, h) + 2

  -- a run that a rule to where the header is read has ended
  closed : (e : LinkId) (top : Entry) (below : List Entry) (end : End) (rule : SpotRule) (t u : List ℕ) (os v : List Origin) (n : ℕ) → can_end s.net s.bounds (e, top ∷ below) end ≡ true → is_dropped end ≡ s.drops → end_work s.net end (e, top ∷ below) ≡ length (top ∷ below)
      → ending s e top.0 end (Close 0) (One (suc top.0.0)) ≡ rule → Ends s rule.to (symbols rule.word ++ stack below) u v n → t ≡ plus rule.share u → os ≡ main_origin rule.origin ++ v → Ended e (top ∷ below) t os (suc n)
  closed e top below end rule t u os v n can d w is ends et eo =
      let on : Ends s (Close 0) (stack (top ∷ below)) u v n = subst (λ (x : SpotRule). Ends s x.to (symbols x.word ++ stack below) u v n) (sym is) ends in
      let r : Read s 0 (top ∷ below) u v n = close_backward s (top ∷ below) 0 u v n on in
      let b = ending_on s rule (Close 0) (One (suc top.0.0)) t u os v e top.0 end is et eo r.share r.tells (k.end_length e top.0 end) in
      let read : n ≡ suc (length (top ∷ below)) = r.number in
      record { end = end; can = can; dropped = d; last = (r.state, r.walks, r.accepts); share = b.0; tells = b.1; number = rw w (omega (arith, read)) }

  end_made : (e : LinkId) (top : Entry) (below : List Entry) (rule : SpotRule) (t u : List ℕ) (os v : List Origin) (n : ℕ) → labels_known s.net (top ∷ below) ≡ true → In (end_rules s e top.0) rule → Ends s rule.to (symbols rule.word ++ stack below) u v n
      → t ≡ plus rule.share u → os ≡ main_origin rule.origin ++ v → Ended e (top ∷ below) t os (suc n)
  end_made e top below rule t u os v n known i ends et eo =
      elim (end_in e top.0 rule i) [
        | inl a ↦ closed e top below Arrives rule t u os v n refl (sym a.drops) refl a.is ends et eo
        | inr (inl a) ↦ closed e top below Inactive rule t u os v n a.down (sym a.drops) refl a.is ends et eo
        | inr (inr a) ↦ failed a
      ]
    where
      failed : IsUndefined e top.0 rule → Ended e (top ∷ below) t os (suc n)
      failed a =
          let named : Names s.net (e, top ∷ below) a.step = record { group = a.names.group; member = a.names.member; group_is = a.names.group_is; member_is = a.names.member_is } in
          let on : Ends s a.way.0 (symbols a.way.1 ++ stack below) u v n = subst (λ (x : SpotRule). Ends s x.to (symbols x.word ++ stack below) u v n) (sym a.is) ends in
          let r : Stopped s k a.names.member.ops (top ∷ below) u v (suc n) =
          lost_backward s k a.names.member (member_number s.net e top.0 a.step) (numbered s k e top.0 a.step a.names) a.names.member.ops 0 top below a.way u v n refl known a.way_is on in
          let b = ending_on s rule a.way.0 a.way.1 t u os v e top.0 (Undefined a.step) a.is et eo r.share r.tells (k.end_length e top.0 (Undefined a.step)) in
          record {
            end = Undefined a.step;
            can = and_from (is_possible s.net s.bounds (e, top ∷ below) a.step) (is_undefined s.net (e, top ∷ below) a.step) (use_possible s k e top below a.step named a.usable) (stuck_undefined (e, top ∷ below) a.step named r.stuck);
            dropped = sym a.drops;
            last = any_accepted s k a.drops (top ∷ below) known;
            share = b.0;
            tells = b.1;
            number = r.number ∙ ap (λ (x : ℕ). x + 2) (sym (work_named (e, top ∷ below) a.step named));
          }

  -- A rule that ends a run, and what follows it, are an end that can be.
  pub end_backward : (e : LinkId) (q : ℕ) (h : List Entry) (t : List ℕ) (os : List Origin) (n : ℕ) → labels_known s.net h ≡ true → Over s k e q h t os n → Ended e h t os n
  end_backward e q h t os n known o =
      let r : Ended e (o.top ∷ o.below) t os (suc o.count) = end_made e o.top o.below o.rule t o.rest os o.told o.count (subst (λ (x : List Entry). labels_known s.net x ≡ true) o.header_is known) o.there o.ends o.share o.tells in
      subst (λ (x : ℕ). Ended e h t os x) (sym o.number) (subst (λ (x : List Entry). Ended e x t os (suc o.count)) (sym o.header_is) r)
