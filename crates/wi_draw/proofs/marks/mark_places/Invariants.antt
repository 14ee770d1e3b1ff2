use Rattle.std.proofs.Common.{◌≡◌, ◌≤◌, ℕ, ◌+◌, drop, length, true}
use Rattle.wi_net.specs.Net.{is_link, labels_known}
use Rattle.wi_world.specs.Runs.{locations}
use Rattle.wi_draw.specs.Drawings.{last_place, link_label}
use Rattle.wi_draw.specs.private.Marks.{label_at}
use Rattle.wi_draw.proofs.marks.mark_places.Given as goal

abbrev pub invariant-loop-i : goal.invariant-loop-i
invariant-loop-i l = record {
  within : l.i ≤ length l.steps;
  link : is_link l.net l.at.0 ≡ true;
  header : labels_known l.net l.at.1 ≡ true;
  count : length l.labels.items ≡ length l.initial.labels.items;
  label : (n : ℕ) → link_label l.net (record { 0 = n }) 1 (label_at l.initial.labels.items n) (locations l.net l.initial.at l.steps) ≡ link_label l.net (record { 0 = n }) (l.i + 1) (label_at l.labels.items n) (locations l.net l.at (drop l.i l.steps));
  last : last_place l.net l.initial.at l.steps ≡ last_place l.net l.at (drop l.i l.steps);
}
