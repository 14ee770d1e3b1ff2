-- The texts of what is wrong with a file of policies.
use Rattle.std.specs.Prelude.{ℕ, List, ◌++◌, codes}
use Rattle.std.specs.Fmt.{decimal}
use Rattle.wi_net.specs.Net.{Net}
use Rattle.wi_policy.specs.declared.policy.LineFault.{LineFault}
use Rattle.wi_policy.specs.declared.policy.LineFault.TheVariants.{NotAPolicy, InQuery, DownAndUp}
use Rattle.wi_policy.specs.declared.policy.PoliciesRefused.{PoliciesRefused}
use Rattle.wi_policy.specs.declared.policy.PoliciesRefused.TheVariants.{AtLine, NoPolicy, Memory}
use Rattle.wi_faults.specs.Shown.{link_shown}
use Rattle.wi_faults.specs.QueryFaults.{down_and_up_words, strict_fault_words}

-- what is wrong with a line
abbrev pub line_fault_words : Net → LineFault → List ℕ
line_fault_words net NotAPolicy = codes "not a policy"
line_fault_words net (InQuery fault) = strict_fault_words net fault
line_fault_words net (DownAndUp e) = down_and_up_words (link_shown net e)

-- what is said of a file that has no policies
abbrev pub policies_fault_text : Net → PoliciesRefused → List ℕ
policies_fault_text net (AtLine n fault) = (codes "policies: line " ++ decimal n ++ codes ": ") ++ line_fault_words net fault ++ codes "\n"
policies_fault_text net NoPolicy = codes "policies: none\n"
policies_fault_text net Memory = codes "whatif: out of memory\n"
