-- What is said of a refusal.
use Rattle.std.proofs.Common.{◌≡◌, ℕ, ◌⊎◌, inl, inr, subst, sym}
use Rattle.std.specs.Prelude.{codes}
use Rattle.wi_base.specs.Sink.{SinkSeen}
use Rattle.wi_outcome.specs.Edges.{Says, SaysWhy}
use Rattle.wi_outcome.specs.Texts.{IsPutTogether, status_of, text_of}
use Rattle.wi_outcome.specs.declared.refusal.Refusal.{Refusal}

pub said_words : (refusal known : Refusal) (status : ℕ) (old new : SinkSeen) (result : ℕ) → refusal ≡ known → status ≡ status_of refusal → Says (text_of known) status old new result → SaysWhy refusal old new result
said_words refusal known status old new result is status_is says =
    inl (subst (λ (r : Refusal). Says (text_of r) (status_of refusal) old new result) (sym is) (subst (λ (s : ℕ). Says (text_of known) s old new result) status_is says))

pub said_made : (refusal known : Refusal) (status : ℕ) (old new : SinkSeen) (result : ℕ) → refusal ≡ known → status ≡ status_of refusal → IsPutTogether known
    → Says (text_of known) status old new result ⊎ Says (codes "whatif: out of memory\n") 11 old new result → SaysWhy refusal old new result
said_made refusal known status old new result is status_is made (inl says) = said_words refusal known status old new result is status_is says
said_made refusal known status old new result is status_is made (inr wants) =
    inr (subst IsPutTogether (sym is) made, wants)
