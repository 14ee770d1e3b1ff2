-- What is said of a script that can't be played.
use Rattle.std.specs.Prelude.{ℕ, ◌+◌, List, ◌++◌, codes}
use Rattle.std.specs.Fmt.{decimal}
use Rattle.wi_script.specs.declared.script.ScriptCause.{ScriptCause}
use Rattle.wi_script.specs.declared.script.ScriptCause.TheVariants.{NotAnEvent, UnknownName, BadHeader, AlreadyFailed, NotFailed, TooManyFailed, NoSuchGroup, NoSuchMember, NotFirstActive, LinkFailed, Undefined}
use Rattle.wi_script.specs.declared.script.ScriptRefused.{ScriptRefused}
use Rattle.wi_script.specs.declared.script.ScriptRefused.TheVariants.{BadLine, Memory}

-- why a line isn't an event that may happen: operations are counted from 1
abbrev pub cause_words : ScriptCause → List ℕ
cause_words NotAnEvent = codes "not an event"
cause_words UnknownName = codes "unknown name"
cause_words BadHeader = codes "bad header"
cause_words AlreadyFailed = codes "already failed"
cause_words NotFailed = codes "not failed"
cause_words TooManyFailed = codes "too many failed"
cause_words NoSuchGroup = codes "no such group"
cause_words NoSuchMember = codes "no such member"
cause_words NotFirstActive = codes "not the first active group"
cause_words LinkFailed = codes "link failed"
cause_words (Undefined i) = codes "operation " ++ decimal (i + 1) ++ codes " undefined"

abbrev pub script_fault_text : ScriptRefused → List ℕ
script_fault_text (BadLine n cause) = (codes "script: line " ++ decimal n ++ codes ": ") ++ cause_words cause ++ codes "\n"
script_fault_text Memory = codes "whatif: out of memory\n"
