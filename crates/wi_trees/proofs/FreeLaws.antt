-- Each split leaves fewer risk groups free: so trees are finite.
use Rattle.std.proofs.Common.{◌≡◌, ℕ, ◌+◌, ◌<◌, ◌≤◌, ◌^◌, true, false, not, ◌&&◌, List, length, arith, add-one, sym, ◌∙◌, ap}
use Rattle.std.proofs.Math.Bool.{and_assoc, and_comm}
use Rattle.std.proofs.Math.Nat.{pow-suc, pow-le-pow_right}
use Rattle.std.proofs.lemmas.Bool.{not-true, not_from_false, false_from_ne_true, true≢false}
use Rattle.wi_net.specs.declared.parts.LinkId.{LinkId}
use Rattle.wi_net.specs.declared.bounds.Bounds.{Bounds}
use Rattle.wi_net.specs.LinkSet.{has, is_rising, outside}
use Rattle.wi_net.specs.Net.{Net, all_links, is_link, links_where, widened, risk_count}
use Rattle.wi_net.specs.Network.{IsNetwork}
use Rattle.wi_net.proofs.SetLemmas.{has-filter, has-links_where, has_where, union_has, same_risk_flip}
use Rattle.wi_net.proofs.CountLemmas.{count_beyond, union_from, filter_same}
use Rattle.wi_net.proofs.RisingLemmas.{filter_rising, rising_same}
use Rattle.wi_net.proofs.WidenLemmas.{union_rising}
use Rattle.wi_world.specs.Moves.{AreBounds}
use Rattle.wi_trees.specs.Branches.{CanSplit, with_down, with_up, free_links}
use Rattle.wi_trees.specs.Trees.{Tree, closed, split, TreeOf, size}
use Rattle.wi_trees.proofs.BranchLaws.{root, child_down, child_up}

module _ (net : Net) where
  -- the links that a set hasn't
  abbrev others : List LinkId → List LinkId
  others s = links_where net (λ e. not (has s e))

  others_union : (s : List LinkId) → widened net s ≡ s → widened net (others s) ≡ others s
  others_union s u = union_from net (λ e. not (has s e)) (λ x e kx ke p r.
      not_from_false (has s e) (false_from_ne_true (has s e)
      (λ i. true≢false (sym (union_has net s e x u i (same_risk_flip net x e r) kx) ∙ not-true (has s x) p))))

  others_has : (s : List LinkId) (e : LinkId) → is_link net e ≡ true → has s e ≡ false → has (others s) e ≡ true
  others_has s e known no_s = has_where net (λ x. not (has s x)) e known (not_from_false (has s e) no_s)

  others_rise : (s t : List LinkId) → is_rising (outside (others s) t) ≡ true
  others_rise s t = filter_rising (λ e. not (has t e)) (others s) (union_rising (λ e. not (has s e)) (length net.links))

  -- the links that neither of two sets has are those that one hasn't, outside the other
  neither : (s t : List LinkId) → links_where net (λ e. not (has s e) && not (has t e)) ≡ outside (others s) t
  neither s t =
      rising_same (links_where net (λ e. not (has s e) && not (has t e))) (outside (others s) t)
      (union_rising (λ e. not (has s e) && not (has t e)) (length net.links)) (others_rise s t)
      (λ e. has-links_where net (λ x. not (has s x) && not (has t x)) e
      ∙ sym (and_assoc (is_link net e) (not (has s e)) (not (has t e)))
      ∙ ap (λ b. b && not (has t e)) (sym (has-links_where net (λ x. not (has s x)) e))
      ∙ sym (has-filter (λ x. not (has t x)) (others s) e))

  free_by_up : (b : Bounds) → free_links net b ≡ outside (others b.down) b.up
  free_by_up b = neither b.down b.up

  free_by_down : (b : Bounds) → free_links net b ≡ outside (others b.up) b.down
  free_by_down b =
      filter_same (λ e. not (has b.down e) && not (has b.up e)) (λ e. not (has b.up e) && not (has b.down e)) (all_links net)
      (λ e listed. and_comm (not (has b.down e)) (not (has b.up e)))
      ∙ neither b.up b.down

  pow_more : (m n : ℕ) → m < n → 2 ^ (m + 1) ≤ 2 ^ n
  pow_more m n h = pow-le-pow_right {n = 2} (omega arith) (omega (arith, h))

  two_times : (n : ℕ) → 2 ^ (n + 1) ≡ 2 ^ n + 2 ^ n
  two_times n = ap (λ m. 2 ^ m) (add-one n) ∙ pow-suc 2 n ∙ omega arith

  module _ (k : IsNetwork net) where
    -- a split takes the link's risk group out of what is free
    module _ (branch : Bounds) (e : LinkId) (kb : AreBounds net branch) (can : CanSplit net branch e) where
      pub fewer_down : risk_count net (free_links net (with_down net branch e)) < risk_count net (free_links net branch)
      fewer_down =
          let union = others_union branch.up kb.up in
          let there = others_has branch.up e can.known can.up in
          rw (free_by_down (with_down net branch e), free_by_down branch)
          (count_beyond net (others branch.up) branch.down e k union kb.down there can.down)

      pub fewer_up : risk_count net (free_links net (with_up net branch e)) < risk_count net (free_links net branch)
      fewer_up =
          let union = others_union branch.down kb.down in
          let there = others_has branch.down e can.known can.down in
          rw (free_by_up (with_up net branch e), free_by_up branch)
          (count_beyond net (others branch.down) branch.up e k union kb.up there can.up)

    -- so a tree of splits has a bounded number of nodes
    pub few_nodes : (AtLeaf : Bounds → Type 0) (branch : Bounds) (tree : Tree) → AreBounds net branch
        → TreeOf AtLeaf net branch tree → size tree + 1 ≤ 2 ^ (risk_count net (free_links net branch) + 1)
    few_nodes AtLeaf branch closed kb t =
        let p = pow_more 0 (risk_count net (free_links net branch) + 1) (omega arith) in omega (arith, p)
    few_nodes AtLeaf branch (split e down up) kb t =
        let n = risk_count net (free_links net branch) in
        let b = root net branch kb in
        let first = few_nodes AtLeaf (with_down net branch e) down (child_down net branch branch e b t.0 k).bounds t.1 in
        let second = few_nodes AtLeaf (with_up net branch e) up (child_up net branch branch e b t.0).bounds t.2 in
        let first_half = pow_more (risk_count net (free_links net (with_down net branch e))) n (fewer_down branch e kb t.0) in
        let second_half = pow_more (risk_count net (free_links net (with_up net branch e))) n (fewer_up branch e kb t.0) in
        let halves : 2 ^ (n + 1) ≡ 2 ^ n + 2 ^ n = two_times n in
        omega (arith, first, second, first_half, second_half, halves)
