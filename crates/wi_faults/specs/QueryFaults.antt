-- The texts of faults of queries, and of links that are given by themselves.
use Rattle.std.specs.Prelude.{ℕ, List, ◌++◌, codes, string_bytes}
use Rattle.std.specs.Fmt.{decimal}
use Rattle.wi_net.specs.Net.{Net}
use Rattle.wi_query.specs.declared.fault.QueryFault.{QueryFault}
use Rattle.wi_query.specs.declared.fault.QueryFault.TheVariants.{Memory, TooLong, Syntax, UnknownLabel, UnknownRouter, UnknownInterface, TooManyPositions, TooManyFailures, DownAndUp}
use Rattle.wi_query.specs.declared.strict.StrictFault.{StrictFault}
use Rattle.wi_query.specs.declared.strict.StrictFault.TheVariants.{InQuery, NoLink}
use Rattle.wi_text.specs.Names.{shown}
use Rattle.wi_faults.specs.Shown.{label_name_shown, link_shown}

-- this is wrong at a byte
abbrev pub byte_words : ℕ → List ℕ → List ℕ
byte_words byte words = (codes "byte " ++ decimal byte ++ codes ": ") ++ words

-- a link is down and up
abbrev pub down_and_up_words : List ℕ → List ℕ
down_and_up_words link = codes "link " ++ link ++ codes " both down and up"

-- what is wrong with a query
abbrev pub query_fault_words : Net → QueryFault → List ℕ
query_fault_words net Memory = codes "out of memory"
query_fault_words net (TooLong n) = codes "" ++ decimal n ++ codes " bytes, limit 4096"
query_fault_words net (Syntax byte) = byte_words byte (codes "syntax")
query_fault_words net (UnknownLabel byte name) = byte_words byte (codes "unknown label " ++ label_name_shown (string_bytes name))
query_fault_words net (UnknownRouter byte name) = byte_words byte (codes "unknown router " ++ shown (string_bytes name))
query_fault_words net (UnknownInterface byte name) = byte_words byte (codes "unknown interface " ++ shown (string_bytes name))
query_fault_words net (TooManyPositions i n) = (codes "expression " ++ decimal i ++ codes " has ") ++ (codes "" ++ decimal n ++ codes " positions, limit 512")
query_fault_words net (TooManyFailures byte) = byte_words byte (codes "over the limit 65535")
query_fault_words net (DownAndUp e) = down_and_up_words (link_shown net e)

-- the same where each pair has to mean a link
abbrev pub strict_fault_words : Net → StrictFault → List ℕ
strict_fault_words net (InQuery fault) = query_fault_words net fault
strict_fault_words net (NoLink byte) = byte_words byte (codes "no link")

-- what the words are said of: want of memory is no fault of the query
abbrev pub query_fault_front : QueryFault → List ℕ
query_fault_front Memory = codes "whatif: "
query_fault_front fault = codes "query: "

-- what is said of a query's fault, and of one of given links
abbrev pub query_fault_text : Net → QueryFault → List ℕ
query_fault_text net fault = query_fault_front fault ++ query_fault_words net fault ++ codes "\n"

abbrev pub given_fault_text : Net → StrictFault → List ℕ
given_fault_text net fault = codes "given: " ++ strict_fault_words net fault ++ codes "\n"
