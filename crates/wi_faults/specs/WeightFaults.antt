-- The texts of faults of weights texts.
use Rattle.std.specs.Prelude.{ℕ, List, ◌++◌, codes, string_bytes}
use Rattle.std.specs.Fmt.{decimal}
use Rattle.wi_quantity.specs.declared.fault.WeightFault.{WeightFault}
use Rattle.wi_quantity.specs.declared.fault.WeightFault.TheVariants.{Memory, Syntax, UnknownQuantity, TooManyTerms, Coefficient}
use Rattle.wi_text.specs.Names.{shown}

-- a fault with these words at a byte
abbrev pub byte_text : ℕ → List ℕ → List ℕ
byte_text byte words = codes "weights: byte " ++ decimal byte ++ codes ": " ++ words ++ codes "\n"

abbrev pub weight_fault_text : WeightFault → List ℕ
weight_fault_text Memory = codes "whatif: out of memory\n"
weight_fault_text (Syntax byte) = byte_text byte (codes "syntax")
weight_fault_text (UnknownQuantity byte word) = byte_text byte (codes "unknown quantity " ++ shown (string_bytes word))
weight_fault_text (TooManyTerms n) = codes "weights: " ++ decimal n ++ codes " terms or parts, limit 5\n"
weight_fault_text (Coefficient byte) = byte_text byte (codes "over the limit 65535")
