-- The texts on standard error, with their exit statuses.
use Rattle.std.specs.Prelude.{ℕ, List, ◌++◌, codes}
use Rattle.wi_cert.specs.declared.tree.TheConstants.{NODE_LIMIT}
use Rattle.wi_netjson.specs.declared.fault.NetFault.TheVariants as fault
use Rattle.wi_script.specs.declared.script.ScriptRefused.TheVariants as script
use Rattle.wi_faults.specs.NetworkFaults.{fault_text}
use Rattle.wi_quantity.specs.declared.fault.WeightFault.TheVariants as weights
use Rattle.wi_faults.specs.ScriptFaults.{script_fault_text}
use Rattle.wi_faults.specs.WeightFaults.{weight_fault_text}
use Rattle.wi_faults.specs.RefusedDecisions.{nodes_over_limit_text, overflow_text, too_long_text}
use Rattle.wi_planjson.specs.declared.refused.PlanRefused.TheVariants as plan
use Rattle.wi_protect.specs.declared.refused.ProtectRefused.TheVariants as protect
use Rattle.wi_faults.specs.PlanFaults.{plan_fault_text, protect_fault_text}
use Rattle.wi_faults.specs.CertificateFaults.{bad_line_text, certificate_fault_text}
use Rattle.wi_faults.specs.StackFaults.{stack_refused_text}
use Rattle.wi_wire.specs.declared.refused.StackRefused.TheVariants as stack
use Rattle.wi_outcome.specs.declared.refusal.Refusal.{Refusal}
use Rattle.wi_outcome.specs.declared.refusal.Refusal.TheVariants.{BadLine, BadStack, CannotPrint, CannotRead, CannotWrite, CannotWriteBelow, Given, LargeCertificate, LargeNetwork, LongPolicies, LongScript, ManyNodes, Memory, Network, NoMemoryBelow, NotAccepted, NotHex, NotWritten, Overflow, Plan, Policies, Query, Script, TooLong, TreeNotWritten, Unprotected, Usage, Weights}

-- what is said of a call that failed, by the name of its file
abbrev pub cannot_read_text : List ℕ → List ℕ
cannot_read_text name = codes "whatif: cannot read " ++ name ++ codes "\n"

abbrev pub cannot_write_text : List ℕ → List ℕ
cannot_write_text name = codes "whatif: cannot write " ++ name ++ codes "\n"

-- what is said
abbrev pub text_of : Refusal → List ℕ
text_of Usage = codes "usage: whatif verify NETWORK QUERY [--weights W] [--certificate FILE]\n       whatif check NETWORK QUERY CERTIFICATE [--weights W]\n       whatif play NETWORK SCRIPT K\n       whatif gen SEED SIZE\n       whatif exact NETWORK QUERY [--weights W] [--certificate FILE]\n       whatif check-exact NETWORK QUERY CERTIFICATE [--weights W]\n       whatif tolerate NETWORK QUERY LIMIT [--weights W] [--certificate FILE]\n       whatif protect PLAN\n       whatif packets NETWORK QUERY [--weights W]\n       whatif stack HEX\n       whatif audit NETWORK POLICIES [--given TEXT]\n       whatif outages NETWORK POLICIES [--given TEXT] [--routers]\n       whatif bypass PLAN\n       whatif draw NETWORK [QUERY [--weights W]]\n"
text_of (CannotRead said) = said
text_of (CannotWrite name said) = said
text_of (CannotWriteBelow name said) = said
text_of (NoMemoryBelow name) = codes "whatif: out of memory\n"
text_of (Network f) = fault_text f
text_of (Query said) = said
text_of (Weights f) = weight_fault_text f
text_of (Given said) = said
text_of (Overflow w terms) = overflow_text terms w
text_of (TooLong effort) = too_long_text effort
text_of (Script refused) = script_fault_text refused
text_of LongScript = codes "script: over the limit 1048576\n"
text_of LargeCertificate = codes "certificate: over the limit 268435456\n"
text_of (BadLine n) = bad_line_text n
text_of (NotAccepted f terms) = certificate_fault_text terms f
text_of NotWritten = codes "certificate: over the limit 268000000, not written\n"
text_of ManyNodes = nodes_over_limit_text NODE_LIMIT
text_of TreeNotWritten = codes "certificate: over the limit 268435456, not written\n"
text_of (Plan refused) = plan_fault_text refused
text_of (Unprotected refused) = protect_fault_text refused
text_of LargeNetwork = codes "plan: file: over the limit 67108864\n"
text_of NotHex = codes "wire: not hex\n"
text_of (BadStack refused) = stack_refused_text refused
text_of LongPolicies = codes "policies: over the limit 1048576\n"
text_of (Policies said) = said
text_of CannotPrint = codes "whatif: cannot print\n"
text_of Memory = codes "whatif: out of memory\n"

-- the text is put together when it is said, which takes memory
abbrev pub IsPutTogether : Refusal → Type 0
IsPutTogether Usage = ⊥
IsPutTogether (CannotRead said) = ⊥
IsPutTogether (CannotWrite name said) = ⊥
IsPutTogether (CannotWriteBelow name said) = ⊥
IsPutTogether (Query said) = ⊥
IsPutTogether (Given said) = ⊥
IsPutTogether LongScript = ⊥
IsPutTogether LargeCertificate = ⊥
IsPutTogether NotWritten = ⊥
IsPutTogether TreeNotWritten = ⊥
IsPutTogether LargeNetwork = ⊥
IsPutTogether NotHex = ⊥
IsPutTogether LongPolicies = ⊥
IsPutTogether (Policies said) = ⊥
IsPutTogether CannotPrint = ⊥
IsPutTogether (NoMemoryBelow name) = ⊥
IsPutTogether Memory = ⊥
IsPutTogether _ = Unit {0}

-- the exit status that goes with it
abbrev pub status_of : Refusal → ℕ
status_of Usage = 9
status_of (CannotRead said) = 10
status_of (CannotWrite name said) = 10
status_of (CannotWriteBelow name said) = 10
status_of (NoMemoryBelow name) = 11
status_of (Network fault.Memory) = 11
status_of (Network f) = 3
status_of (Query said) = 4
status_of (Weights weights.Memory) = 11
status_of (Weights f) = 5
status_of (Given said) = 4
status_of (Overflow w terms) = 6
status_of (TooLong effort) = 7
status_of (Script script.Memory) = 11
status_of (Script refused) = 12
status_of LongScript = 12
status_of LargeCertificate = 8
status_of (BadLine n) = 8
status_of (NotAccepted f terms) = 8
status_of NotWritten = 14
status_of ManyNodes = 13
status_of TreeNotWritten = 14
status_of (Plan plan.Memory) = 11
status_of (Plan refused) = 15
status_of (Unprotected protect.Memory) = 11
status_of (Unprotected refused) = 15
status_of LargeNetwork = 15
status_of NotHex = 16
status_of (BadStack stack.Memory) = 11
status_of (BadStack refused) = 16
status_of LongPolicies = 17
status_of (Policies said) = 17
status_of CannotPrint = 10
status_of Memory = 11
