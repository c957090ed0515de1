-- The counts of a slot, posted one after the other: from what is left to post after p posts, one post more, by the room of the words that
-- it is made on. Assumes nothing.
use Rattle.std.proofs.Common.{◌≡◌, ap, sym, ◌∙◌, List, ℕ, suc, ◌+◌, ◌<◌, add-one, length, get_or, drop, drop-cons}
use Rattle.lists.specs.Runs.{Result}
use Rattle.terms.specs.declared.refusals.Refusal.{Refusal}
use Rattle.terms.specs.State.{State}
use Rattle.terms.specs.Answers.{Answer, accepted, refused, unless}
use Rattle.rule.specs.Calls.{post, called}
use Rattle.listing.specs.Listing.{posted}

module _ (limit room : ℕ) (same : room ≡ limit) (first s : State) (counts : List ℕ) (p : ℕ)
    (sofar : posted limit s p (drop p counts) ≡ posted limit first 0 counts) (h : p < length counts)
    (done : Result State Answer) (e : done ≡ called room s (post p (get_or counts p 0))) where
  one_more : posted limit s p (drop p counts) ≡ unless done.answer (λ why. done) (posted limit done.state (suc p) (drop (suc p) counts))
  unfolding posted
  one_more =
      let asked : done ≡ called limit s (post p (get_or counts p 0)) = rw same at e in
      rw (drop-cons counts p 0 h, ← asked)

  -- it is accepted
  pub posting_next : done.answer ≡ accepted → posted limit done.state (p + 1) (drop (p + 1) counts) ≡ posted limit first 0 counts
  posting_next a = rw add-one (sym (rw a at one_more) ∙ sofar)

  -- it is refused
  pub posting_stop : (why : Refusal) → done.answer ≡ refused why → done ≡ posted limit first 0 counts
  posting_stop why a = sym (one_more ∙ ap (λ (x : Answer). unless x (λ why. done) (posted limit done.state (suc p) (drop (suc p) counts))) a) ∙ sofar
