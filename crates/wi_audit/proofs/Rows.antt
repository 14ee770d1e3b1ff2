-- What is printed, computed.
use Rattle.std.proofs.Common.{◌≡◌, true, [], refl}
use Rattle.std.specs.Prelude.{codes}
use Rattle.std.specs.Fmt.{digits}
use Rattle.wi_branch.specs.declared.refused.AnswerRefused.TheVariants.{NodeLimit, TooLong}
use Rattle.wi_audit.specs.Texts.{called, cause_text, commented, plan_text}

plan : plan_text 3 ≡ codes "1..3\n"
unfolding digits
plan = refl

-- no byte of a name ends it for a reader
safe_name : called 7 (codes "a # TODO \\ b") ≡ codes "a _ TODO _ b"
safe_name = refl

no_name : called 7 [] ≡ codes "line 7"
unfolding digits
no_name = refl

-- each line is a comment, also an empty one and one that isn't ended
comments : commented true (codes "x\n\ny # z") ≡ codes "# x\n# \n# y # z"
comments = refl

no_comment : commented true [] ≡ []
no_comment = refl

too_many_nodes : commented true (cause_text NodeLimit) ≡ codes "# exact: over the limit 10000 nodes\n"
unfolding digits
too_many_nodes = refl

too_long : commented true (cause_text (TooLong 5000)) ≡ codes "# too long: effort 5000, limit 4096\n"
unfolding digits
too_long = refl
