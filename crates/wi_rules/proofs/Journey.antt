-- From the first link to the end: steps and rules.
use Rattle.std.proofs.Common.{◌≡◌, ℕ, zero, suc, ◌+◌, ◌<◌, ◌≤◌, max, true, List, [], ◌∷◌, ◌++◌, length, map, Option, Some, None, inl, inr, refl, arith, ap, ◌∙◌, subst}
use Rattle.std.specs.List.{list_all}
use Rattle.std.specs.Option.{option_map_or}
use Rattle.std.proofs.lemmas.Bool.{and_parts}
use Rattle.wi_labels.specs.declared.ops.Op.{Op}
use Rattle.wi_labels.specs.Header.{Entry, is_valid_header, after_ops}
use Rattle.wi_labels.proofs.HeaderLemmas.{after_ops_valid}
use Rattle.wi_net.specs.declared.parts.LinkId.{LinkId}
use Rattle.wi_net.specs.Net.{Net, labels_known}
use Rattle.wi_net.specs.Network.{op_known}
use Rattle.wi_weight.specs.Weights.{plus}
use Rattle.wi_weight.specs.lemmas.Sums.{length-plus}
use Rattle.wi_world.specs.declared.run.Step.{Step}
use Rattle.wi_world.specs.declared.run.End.{End}
use Rattle.wi_world.specs.Moves.{Location, moved, is_possible, can_end}
use Rattle.wi_world.specs.Runs.{locations, last_header, sum_over, work, end_work}
use Rattle.wi_world.specs.Holds.{is_dropped}
use Rattle.wi_world.proofs.Allowed.{Possible, possible_parts}
use Rattle.wi_world.proofs.Steps.{Onward, goes, goes_on, follows_from}
use Rattle.wi_rules.specs.declared.spot.Origin.{Origin}
use Rattle.wi_rules.specs.declared.spot.Origin.TheVariants.{Hop, Ending}
use Rattle.wi_rules.specs.declared.spot.Spot.TheVariants.{OnLink}
use Rattle.wi_rules.specs.Rules.{Encoding, Walks, Accepts, IsEncoding}
use Rattle.wi_rules.specs.Goals.{share_at, end_share_at, shares, hops_of}
use Rattle.wi_rules.proofs.Lists.{in_contains, contains_in, length_zeros}
use Rattle.wi_rules.proofs.Ends.{Ends, stack}
use Rattle.wi_rules.proofs.Ops.{Wrote, wrote, After, after_from}
use Rattle.wi_rules.proofs.Hop.{ops_of}
use Rattle.wi_rules.proofs.HopRun.{Listed, numbered, led, work_named, Hopped, hop_forward, hop_backward}
use Rattle.wi_rules.proofs.Header.{labels_of}
use Rattle.wi_rules.proofs.Ending.{Ended, end_forward, end_backward}

-- the numbers of the links after the first
abbrev pub later : Net → Location → List Step → List ℕ
later net at [] = []
later net at (step ∷ steps) = option_map_or (λ next. next.0.0 ∷ later net next steps) (moved net at step) []

pub links_later : (net : Net) (steps : List Step) (at : Location) → map (λ (e : LinkId). e.0) (map (λ (p : Location). p.0) (locations net at steps)) ≡ at.0.0 ∷ later net at steps
links_later net [] at = refl
links_later net (step ∷ steps) at = go (moved net at step) refl (links_later net steps)
  where
    go : (o : Option Location) → moved net at step ≡ o → ((at : Location) → map (λ (e : LinkId). e.0) (map (λ (p : Location). p.0) (locations net at steps)) ≡ at.0.0 ∷ later net at steps)
        → map (λ (e : LinkId). e.0) (map (λ (p : Location). p.0) (locations net at (step ∷ steps))) ≡ at.0.0 ∷ later net at (step ∷ steps)
    go None m ih = rw m refl
    go (Some next) m ih = rw m (ap (λ (x : List ℕ). at.0.0 ∷ x) (ih next))

module _ (s : Encoding) (k : IsEncoding s) where
  after_known : (ops : List Op) (h h2 : List Entry) → list_all (λ (op : Op). op_known s.net op) ops ≡ true → labels_known s.net h ≡ true → After ops h h2 → labels_known s.net h2 ≡ true
  after_known [] h h2 o known a = subst (λ (x : List Entry). labels_known s.net x ≡ true) a known
  after_known (op ∷ ops) [] h2 o known a = let none : ◌≡◌ {A = Option (List Entry)} None (Some a.0) = a.1 in cc
  after_known (op ∷ ops) (top ∷ below) h2 o known a =
      let parts = and_parts (op_known s.net op) (list_all (λ (x : Op). op_known s.net x) ops) o in
      let w : Wrote s.net op top below a.0 = wrote s.net op top below a.0 known a.1 in
      after_known ops a.0 h2 parts.1 (w.known parts.0) a.2

  -- a possible hop keeps a header valid and known
  kept : (e : LinkId) (top : Entry) (below : List Entry) (step : Step) (next : Location) → is_possible s.net s.bounds (e, top ∷ below) step ≡ true → moved s.net (e, top ∷ below) step ≡ Some next
      → is_valid_header (top ∷ below) ≡ true → labels_known s.net (top ∷ below) ≡ true → (is_valid_header next.1 ≡ true) × (labels_known s.net next.1 ≡ true)
  kept e top below step next h m v known =
      let p : Possible s.net s.bounds (e, top ∷ below) step = possible_parts s.net s.bounds (e, top ∷ below) step h in
      let way : (after_ops p.named.member.ops (top ∷ below) ≡ Some next.1) × (next.0 ≡ p.named.member.link) = led s k (e, top ∷ below) step p.named next m in
      let n : Listed s k e top.0 step = record { group = p.named.group; member = p.named.member; group_is = p.named.group_is; member_is = p.named.member_is } in (
        after_ops_valid p.named.member.ops (top ∷ below) next.1 v way.0,
        after_known p.named.member.ops (top ∷ below) next.1 (ops_of s k n.member _ (numbered s k e top.0 step n)) known (after_from p.named.member.ops (top ∷ below) next.1 way.0),
      )

  share_length : (at : Location) (step : Step) → length (share_at s at step) ≡ s.terms
  share_length (e, []) step = length_zeros s
  share_length (e, top ∷ below) step = k.step_length e top.0 step

  end_share_length : (at : Location) (end : End) → length (end_share_at s at end) ≡ s.terms
  end_share_length (e, []) end = length_zeros s
  end_share_length (e, top ∷ below) end = k.end_length e top.0 end

  pub shares_length : (end : End) (steps : List Step) (at : Location) → length (shares s end at steps) ≡ s.terms
  shares_length end [] at = end_share_length at end
  shares_length end (step ∷ steps) at = go (moved s.net at step) refl (shares_length end steps)
    where
      go : (o : Option Location) → moved s.net at step ≡ o → ((at : Location) → length (shares s end at steps) ≡ s.terms) → length (shares s end at (step ∷ steps)) ≡ s.terms
      go None m ih = rw m (length_zeros s)
      go (Some next) m ih = rw m (length-plus s.terms (share_at s at step) (shares s end next steps) (share_length at step) (ih next))

  -- the number of rules from a link on, and what they tell
  abbrev pub count_from : End → Location → List Step → ℕ
  count_from end at steps = sum_over s.net (work s.net) (end_work s.net end) at steps + 2

  abbrev pub told_from : End → List Step → List Origin
  told_from end steps = hops_of steps ++ Ending end ∷ []

  -- Steps that are possible hops, whose links the path's automaton accepts and whose last header the last one does, and an end that can
  -- be, are rules to the end.
  pub journey_forward : (end : End) → is_dropped end ≡ s.drops → (steps : List Step) (e : LinkId) (h : List Entry) (q r : ℕ) → is_valid_header h ≡ true → labels_known s.net h ≡ true → goes s.net s.bounds end (e, h) steps ≡ true
      → Walks s.path q (later s.net (e, h) steps) r → s.path.accepts r ≡ true → Accepts s.last (labels_of (last_header s.net (e, h) steps))
      → Ends s (OnLink e q) (stack h) (shares s end (e, h) steps) (told_from end steps) (count_from end (e, h) steps)
  journey_forward end d steps e [] q r v known f w a l = cc
  journey_forward end d [] e (top ∷ below) q r v known f w a l = end_forward s k e q top below end v known (rw w a) f d l
  journey_forward end d (step ∷ steps) e (top ∷ below) q r v known f w a l =
      let o : Onward s.net (is_possible s.net s.bounds) (λ place. can_end s.net s.bounds place end) (e, top ∷ below) step steps = goes_on s.net s.bounds end (e, top ∷ below) step steps f in
      let keeps : (is_valid_header o.next.1 ≡ true) × (labels_known s.net o.next.1 ≡ true) = kept e top below step o.next o.passes o.moves v known in
      let w1 : Walks s.path q (o.next.0.0 ∷ later s.net o.next steps) r = rw o.moves at w in
      let rest : Ends s (OnLink o.next.0 w1.0) (stack o.next.1) (shares s end o.next steps) (told_from end steps) (count_from end o.next steps) =
      journey_forward end d steps o.next.0 o.next.1 w1.0 r keeps.0 keeps.1 o.rest w1.2 a (rw o.moves at l) in
      let all : Ends s (OnLink e q) (stack (top ∷ below)) (plus (share_at s (e, top ∷ below) step) (shares s end o.next steps)) (Hop step ∷ told_from end steps) (work s.net (e, top ∷ below) step o.next + count_from end o.next steps) =
      hop_forward s k e q w1.0 top below step o.next (shares s end o.next steps) (told_from end steps) (count_from end o.next steps) o.passes o.moves (contains_in (s.path.next q o.next.0.0) w1.0 w1.1) known rest (shares_length end steps o.next) in
      let number : (work s.net (e, top ∷ below) step o.next + sum_over s.net (work s.net) (end_work s.net end) o.next steps) + 2 ≡ work s.net (e, top ∷ below) step o.next + count_from end o.next steps = omega arith in
      rw o.moves (rw number all)

  -- the steps that rules have made from a link on, and the end
  pub record Journey (e : LinkId) (q : ℕ) (h : List Entry) (t : List ℕ) (os : List Origin) (n : ℕ) : Type 0 where
    pub steps : List Step
    pub end : End
    pub state : ℕ
    pub possible : goes s.net s.bounds end (e, h) steps ≡ true
    pub dropped : is_dropped end ≡ s.drops
    pub walks : Walks s.path q (later s.net (e, h) steps) state
    pub accepts : s.path.accepts state ≡ true
    pub last : Accepts s.last (labels_of (last_header s.net (e, h) steps))
    pub share : t ≡ shares s end (e, h) steps
    pub tells : os ≡ told_from end steps
    pub number : n ≡ count_from end (e, h) steps

  more : (e : LinkId) (q : ℕ) (h : List Entry) (t : List ℕ) (os : List Origin) (n : ℕ) (r : Hopped s k (e, h) q t os n) → Journey r.next.0 r.to r.next.1 r.rest r.told r.count → Journey e q h t os n
  more e q h t os n r j = record {
    steps = r.step ∷ j.steps;
    end = j.end;
    state = j.state;
    possible = follows_from s.net (is_possible s.net s.bounds) (λ place. can_end s.net s.bounds place j.end) (e, h) r.step r.next j.steps r.moves r.possible j.possible;
    dropped = j.dropped;
    walks = rw r.moves (r.to, in_contains (s.path.next q r.next.0.0) r.to r.path, j.walks);
    accepts = j.accepts;
    last = rw r.moves j.last;
    share = rw r.moves (r.share ∙ ap (λ (x : List ℕ). plus (share_at s (e, h) r.step) x) j.share);
    tells = r.tells ∙ ap (λ (x : List Origin). Hop r.step ∷ x) j.tells;
    number = rw r.moves (
        let x : n ≡ work s.net (e, h) r.step r.next + r.count = r.number in
        let y : r.count ≡ sum_over s.net (work s.net) (end_work s.net j.end) r.next j.steps + 2 = j.number in
        omega (arith, x, y)
        );
  }

  works : (at : Location) (q : ℕ) (t : List ℕ) (os : List Origin) (n : ℕ) (r : Hopped s k at q t os n) → r.count < n
  works at q t os n r =
      let p : Possible s.net s.bounds at r.step = possible_parts s.net s.bounds at r.step r.possible in
      let x : n ≡ work s.net at r.step r.next + r.count = r.number in
      let y : work s.net at r.step r.next ≡ max 1 (length p.named.member.ops) = work_named s k at r.step p.named r.next in
      omega (arith, x, y)

  ended : (e : LinkId) (q : ℕ) (h : List Entry) (t : List ℕ) (os : List Origin) (n : ℕ) → s.path.accepts q ≡ true → Ended s k e h t os n → Journey e q h t os n
  ended e q h t os n a r = record {
    steps = [];
    end = r.end;
    state = q;
    possible = r.can;
    dropped = r.dropped;
    walks = refl;
    accepts = a;
    last = r.last;
    share = r.share;
    tells = r.tells;
    number = r.number;
  }

  -- Rules from a link to the end are possible hops, and then an end that can be.
  pub journey_backward : (fuel : ℕ) (e : LinkId) (q : ℕ) (h : List Entry) (t : List ℕ) (os : List Origin) (n : ℕ) → n ≤ fuel → labels_known s.net h ≡ true → Ends s (OnLink e q) (stack h) t os n → Journey e q h t os n
  journey_backward zero e q h t os n le known ends =
      elim (hop_backward s k e q h t os n known ends) [
        | inl r ↦ (let lt : r.count < n = works (e, h) q t os n r in absurd (omega (arith, le, lt)))
        | inr o ↦ ended e q h t os n o.accepts (end_backward s k e q h t os n known o)
      ]
  journey_backward (suc fuel) e q h t os n le known ends =
      elim (hop_backward s k e q h t os n known ends) [
        | inl r ↦ (let lt : r.count < n = works (e, h) q t os n r in let less : r.count ≤ fuel = omega (arith, le, lt) in more e q h t os n r (journey_backward fuel r.next.0 r.to r.next.1 r.rest r.told r.count less r.known r.ends))
        | inr o ↦ ended e q h t os n o.accepts (end_backward s k e q h t os n known o)
      ]
