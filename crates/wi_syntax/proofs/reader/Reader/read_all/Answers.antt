use Rattle.std.proofs.Common.{◌∙◌, ap}
use Rattle.wi_syntax.specs.private.Parsing.{goes}
use Rattle.wi_syntax.proofs.Texts.{first_place, next_place, stop_place, last_place}
use Rattle.wi_syntax.proofs.reader.Reader.read_all.Goals as goal

pub loop-at-init : goal.loop-at-init
loop-at-init c = let made = c.char_indices-at-items.ensures in rw c.into_iter-at-iterator.ensures.into_iter_gives (record {
  place = first_place _ _ _ _ c.utf8.text made.rest made.offset c.requires;
  at = rw (made.offset) (ap (λ z. z.at) c.requires);
})

pub loop-at-preserved : goal.loop-at-preserved
loop-at-preserved c =
    let ran = c.in-Some.ensures.steps in
    let here = c.loop-at.invariant in
    let moved = next_place _ _ _ _ _ _ _ _ c.utf8.text here.place ran.1 ran.2 (c.in_ok-read.ensures ∙ ap (goes c.read.new.self) c.if-not-branch.false) in
    record { place = moved.0; at = moved.1 }

pub returns-then-not-branch : goal.returns-then-not-branch
returns-then-not-branch c =
    let ran = c.in-Some.ensures.steps in
    stop_place _ _ _ _ _ _ _ c.loop-at.invariant.place ran.0 ran.1 (c.in_ok-read.ensures ∙ ap (goes c.read.new.self) c.if-not-branch.true)

pub returns : goal.returns
returns c = last_place _ _ _ _ c.loop-at.invariant.place c.in-None.ensures.steps.0
