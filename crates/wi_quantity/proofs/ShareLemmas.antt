-- What a vector's terms are, where each quantity has a share.
use Rattle.std.proofs.Common.{◌≡◌, ℕ, ◌≤◌, Bool, true, false, nat_le, List, [], ◌∷◌, ◌++◌, length, slice_get, refl, arith, ap, sym, ◌∙◌, zero-add}
use Rattle.std.proofs.lemmas.Bool.{leb-true, and_parts}
use Rattle.std.specs.Option.{option_map_or}
use Rattle.std.specs.List.{filter}
use mathlib.Core.Path.{fun_ext}
use Rattle.wi_labels.specs.declared.ops.Op.{Op}
use Rattle.wi_net.specs.declared.parts.Member.{Member}
use Rattle.wi_net.specs.Net.{Net, is_link}
use Rattle.wi_world.specs.declared.run.Quantity.{Quantity}
use Rattle.wi_world.specs.declared.run.Quantity.TheVariants.{Links, Hops, Distance, Failures, Tunnels}
use Rattle.wi_world.specs.Runs.{link_share}
use Rattle.wi_quantity.specs.declared.vector.Part.{Part}
use Rattle.wi_quantity.specs.declared.share.Shares.{Shares}
use Rattle.wi_quantity.specs.Weighing.{term_value, term_values, member_share, end_adds, growth, is_push, is_way_out}
use Rattle.wi_quantity.specs.private.Shares.{share_of}

-- the value of the term of a number
abbrev pub value_at : (Quantity → ℕ) → List (List Part) → ℕ → ℕ
value_at value vector i = option_map_or (term_value value) (slice_get vector i) 0

-- the values of five terms, one by one
pub five_terms : (value : Quantity → ℕ) (terms vector : List (List Part)) (a b c d e : ℕ) → terms ≡ vector → a ≡ value_at value terms 0 → b ≡ value_at value terms 1 → c ≡ value_at value terms 2 → d ≡ value_at value terms 3 → e ≡ value_at value terms 4
    → a ∷ b ∷ c ∷ d ∷ e ∷ 0 ∷ [] ≡ term_values value vector ++ 0 ∷ []
five_terms value terms vector a b c d e is ea eb ec ed ee = rw (ea, eb, ec, ed, ee, is) (each vector)
  where
    each : (v : List (List Part)) → value_at value v 0 ∷ value_at value v 1 ∷ value_at value v 2 ∷ value_at value v 3 ∷ value_at value v 4 ∷ 0 ∷ [] ≡ term_values value v ++ 0 ∷ []
    each [] = refl
    each (s ∷ []) = refl
    each (s ∷ t ∷ []) = refl
    each (s ∷ t ∷ u ∷ []) = refl
    each (s ∷ t ∷ u ∷ v ∷ []) = refl
    each (s ∷ t ∷ u ∷ v ∷ w ∷ more) = refl

-- equal shares give equal values
pub same_values : (f g : Quantity → ℕ) (vector : List (List Part)) → ((q : Quantity) → f q ≡ g q) → term_values f vector ++ 0 ∷ [] ≡ term_values g vector ++ 0 ∷ []
same_values f g vector each = ap (λ (h : Quantity → ℕ). term_values h vector ++ 0 ∷ []) (fun_ext each)

-- the shares of a hop are those of its link, with what the hop adds
pub hop_shares : (net : Net) (m : Member) (failures grown : ℕ) (link : Shares) → ((q : Quantity) → share_of link q ≡ link_share q net m.link) → grown ≡ growth m.ops
    → (q : Quantity) → share_of (record { links = link.links; hops = link.hops; distance = link.distance; failures = failures; tunnels = grown }) q ≡ member_share q net m failures
hop_shares net m failures grown link each is Links = each Links
hop_shares net m failures grown link each is Hops = each Hops
hop_shares net m failures grown link each is Distance = each Distance
hop_shares net m failures grown link each is Failures = sym (zero-add failures)
hop_shares net m failures grown link each is Tunnels = is ∙ sym (zero-add (growth m.ops))

-- the shares of an end
pub end_shares : (failures : ℕ) (q : Quantity) → share_of (record { links = 0; hops = 0; distance = 0; failures = failures; tunnels = 0 }) q ≡ end_adds q failures
end_shares failures Links = refl
end_shares failures Hops = refl
end_shares failures Distance = refl
end_shares failures Failures = refl
end_shares failures Tunnels = refl

filtered : (p : Op → Bool) (ops : List Op) → length (filter p ops) ≤ length ops
filtered p [] = omega arith
filtered p (x ∷ ops) = go (p x) refl (filtered p ops)
  where
    go : (b : Bool) → p x ≡ b → length (filter p ops) ≤ length ops → length (filter p (x ∷ ops)) ≤ length (x ∷ ops)
    go true e ih = rw e (omega (arith, ih))
    go false e ih = rw e (omega (arith, ih))

-- a member of a table has few operations
pub growth_small : (net : Net) (m : Member) (n : ℕ) → n ≡ growth m.ops → is_way_out net m ≡ true → n ≤ 8
growth_small net m n is way =
    let few = leb-true (length m.ops) 8 ((and_parts (is_link net m.link) (nat_le (length m.ops) 8) way).1) in
    let pushed = filtered is_push m.ops in
    omega (arith, is, few, pushed)
