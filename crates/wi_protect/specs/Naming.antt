-- Which names the labels of a plan's network have, by their numbers: the tables along paths and bypasses give these numbers.
use Rattle.std.specs.Prelude.{◌≡◌, ℕ, ◌+◌, ◌<◌, true, codes, slice_get, take, Some}
use Rattle.wi_labels.specs.declared.label.Label.{Label}
use Rattle.wi_labels.specs.declared.label.Class.TheVariants.{Ip}
use Rattle.wi_net.specs.Net.{Net, label_known}
use Rattle.wi_plan.specs.declared.plan.Path.{Path}
use Rattle.wi_plan.specs.declared.plan.Bypass.{Bypass}
use Rattle.wi_plan.specs.declared.plan.Plan.{Plan}
use Rattle.wi_protect.specs.Labels.{numbered, path_labels, bypass_labels, paths_labels, bypasses_labels, first_path_label, first_bypass_label, moved_label}
use Rattle.wi_protect.specs.Protected.{protected}

-- An ip label keeps its name where it is moved to. The labels of the P-th path are named pP.1, pP.2 and so on, in their order along it,
-- and those of the X-th bypass bX.1, bX.2; paths and bypasses are counted from 1
pub record AreNamed (net : Net) (plan : Plan) : Type 0 where
  pub moved : (l : Label) → label_known net.classes (l, Ip) ≡ true → slice_get (protected net plan).labels (moved_label plan l).0 ≡ slice_get net.labels l.0
  pub along : (p i : ℕ) (path : Path) → slice_get plan.paths p ≡ Some path → i < path_labels path
      → slice_get (protected net plan).labels (first_path_label net plan + paths_labels (take p plan.paths) + i) ≡ Some (numbered (codes "p") (p + 1) (i + 1))
  pub around : (x i : ℕ) (bypass : Bypass) → slice_get plan.bypasses x ≡ Some bypass → i < bypass_labels bypass
      → slice_get (protected net plan).labels (first_bypass_label net + bypasses_labels (take x plan.bypasses) + i) ≡ Some (numbered (codes "b") (x + 1) (i + 1))
