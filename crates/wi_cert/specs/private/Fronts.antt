-- The lines of a text that show its answer.
use Rattle.std.specs.Prelude.{ℕ, List, [], ◌∷◌, ◌++◌, codes, length}
use Rattle.std.specs.List.{flat_map}
use Rattle.wi_cert.specs.declared.certificate.Certificate.{Certificate}
use Rattle.wi_cert.specs.declared.tree.TreeCertificate.{TreeCertificate}
use Rattle.wi_cert.specs.Numbers.{count_line}
use Rattle.wi_cert.specs.Shown.{certificate_front, tree_front, title_line, shown_lines}
use Rattle.wi_cert.specs.Text.{ended}

-- the lines before `heads`, each with its end
abbrev pub front_text : Certificate → List ℕ
front_text c = flat_map ended (title_line certificate_front c.shown.dropped ∷ shown_lines c.shown)

-- the lines of a tree's text before the nodes, each with its end
abbrev pub tree_front_text : TreeCertificate → List ℕ
tree_front_text t = flat_map ended (title_line tree_front t.shown.dropped ∷ (shown_lines t.shown ++ count_line (codes "nodes ") (length t.nodes) ∷ []))
