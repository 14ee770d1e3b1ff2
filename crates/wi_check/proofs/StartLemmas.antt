-- A run without a fault begins on a link of the network.
use Rattle.std.proofs.Common.{◌≡◌, ℕ, ◌<◌, Bool, true, false, length, refl}
use Rattle.std.specs.Prelude.{not, ◌&&◌}
use Rattle.std.proofs.lemmas.Bool.{and_parts, ltb-true}
use Rattle.wi_labels.specs.Header.{is_valid_header}
use Rattle.wi_net.specs.LinkSet.{has}
use Rattle.wi_net.specs.Net.{is_link, labels_known}
use Rattle.wi_world.specs.declared.run.Run.{Run}
use Rattle.wi_world.specs.Moves.{is_start}
use Rattle.wi_trace.specs.declared.cause.Cause.TheVariants.{BadStart}
use Rattle.wi_build.specs.Problems.{Problem}
use Rattle.wi_cert.specs.declared.shown.Shown.{Shown}
use Rattle.wi_cert.specs.declared.check_refused.CheckRefused.TheVariants.{StepNotInTable}
use Rattle.wi_accept.specs.Answers.{run_of}
use Rattle.wi_accept.specs.Causes.{ShowsRun}
use Rattle.wi_check.specs.private.Stages.{NoneShown}

pub begins : (problem : Problem) (s : Shown) (n : ℕ) → 2 < n → NoneShown problem s n → ShowsRun s → (run_of problem.net s).first.0 < length problem.net.links
begins problem s n past none shows = go (is_start problem.net problem.bounds.down run.first run.header) refl
  where
    run : Run
    run = run_of problem.net s

    go : (b : Bool) → is_start problem.net problem.bounds.down run.first run.header ≡ b → run.first.0 < length problem.net.links
    go false off = absurd (none (StepNotInTable 0) past (shows, BadStart, (rw off refl)))
    go true on =
        let known = and_parts (is_link problem.net run.first && not (has problem.bounds.down run.first) && is_valid_header run.header) (labels_known problem.net run.header) on in
        let valid = and_parts (is_link problem.net run.first && not (has problem.bounds.down run.first)) (is_valid_header run.header) known.0 in
        let link = and_parts (is_link problem.net run.first) (not (has problem.bounds.down run.first)) valid.0 in
        ltb-true run.first.0 (length problem.net.links) link.0
