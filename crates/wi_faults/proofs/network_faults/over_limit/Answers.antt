use Rattle.std.proofs.Common.{◌≡◌, ℕ, List, ◌++◌, Result, OnOk, sym, ap, subst, ◌∙◌, append_assoc}
use Rattle.std.specs.Prelude.{codes}
use Rattle.std.specs.Fmt.{decimal}
use Rattle.wi_faults.specs.NetworkFaults.{place_text}
use Rattle.wi_faults.proofs.network_faults.over_limit.Goals as goal

-- five pieces, put on in three calls
pieces : (a b c d e : List ℕ) → ((a ++ b) ++ c) ++ (d ++ e) ≡ a ++ ((b ++ (c ++ d)) ++ e)
pieces a b c d e =
    let left : ((a ++ b) ++ c) ++ (d ++ e) ≡ a ++ (b ++ (c ++ (d ++ e))) = append_assoc (a ++ b) c (d ++ e) ∙ append_assoc a b (c ++ (d ++ e)) in
    let right : (b ++ (c ++ d)) ++ e ≡ b ++ (c ++ (d ++ e)) = append_assoc b (c ++ d) e ∙ ap (λ x. b ++ x) (append_assoc c d e) in
    left ∙ ap (λ x. a ++ x) (sym right)

put_on : {E : Type 0} (r : Result (Unit {0}) E) (a b c d e one two three : List ℕ) → one ≡ a ++ b → two ≡ one ++ c → OnOk r (three ≡ two ++ (d ++ e)) → OnOk r (three ≡ a ++ ((b ++ (c ++ d)) ++ e))
put_on r a b c d e one two three f g h =
    let P : List ℕ → Type 0 = λ x. OnOk r (three ≡ x) in
    subst P (ap (λ x. x ++ (d ++ e)) (g ∙ ap (λ x. x ++ c) f) ∙ pieces a b c d e) h

pub returns : goal.returns
returns c = put_on c.ended.result c.args.text.now (codes "network: " ++ place_text c.args.place ++ codes ": ") (codes "over the limit ") (decimal c.args.limit) (codes "\n") c.begin.new.text c.put.new.self c.ended.new.text c.in_ok-begin.ensures c.in_ok-put.ensures c.ended.ensures
