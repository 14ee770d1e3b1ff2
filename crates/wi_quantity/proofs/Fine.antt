-- A text that means a vector has no fault.
use Rattle.std.proofs.Common.{◌≡◌, ℕ, List, Option, Some, None, refl, ap, ◌∙◌}
use Rattle.wi_quantity.specs.declared.vector.Part.{Part}
use Rattle.wi_quantity.specs.declared.fault.WeightFault.{WeightFault}
use Rattle.wi_quantity.specs.declared.fault.WeightFault.TheVariants.{Syntax, UnknownQuantity, TooManyTerms, Coefficient, Memory}
use Rattle.wi_quantity.specs.Written.{Written, Reads}
use Rattle.wi_quantity.specs.Faults.{unknown_word, too_many, too_large, Means, IsFault}
use Rattle.wi_quantity.proofs.Readings.{one_way}

-- what isn't wrong with a text as it is written one way isn't wrong with it as it is written the same way again
none_again : {X : Type 0} (text : List ℕ) (wrong : Written → Option X) (v w : Written) (x : X) → Reads text v → Reads text w → wrong w ≡ None → wrong v ≡ Some x → ⊥
none_again text wrong v w x rv rw' none some = let again : wrong v ≡ None = ap wrong (one_way text v w rv rw') ∙ none in cc

pub text_fine : (text : List ℕ) (vector : List (List Part)) (fault : WeightFault) → Means text vector → IsFault text fault → fault ≡ Memory
text_fine text vector (Syntax k) m f = absurd (f.outside (m.written, m.reads))
text_fine text vector (UnknownQuantity at word) m f = absurd (none_again text unknown_word f.0 m.written _ f.1 m.reads m.known f.2)
text_fine text vector (TooManyTerms n) m f = absurd (none_again text too_many f.0 m.written n (f.1).reads m.reads m.few f.2)
text_fine text vector (Coefficient at) m f = absurd (none_again text too_large f.0 m.written at (f.1).reads m.reads m.small f.3)
text_fine text vector Memory m f = refl
