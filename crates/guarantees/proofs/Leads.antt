-- The leads over the log of an accepted run: its bytes count its grants, and the ceiling and the floor are those of the stretch.
-- Assumes nothing.
use Rattle.std.proofs.Common.{◌≡◌, refl, ap, ap₂, sym, subst, ◌∙◌, true, false, List, [], ◌∷◌, map, ℕ, zero, suc, ◌+◌, ◌-◌, ◌*◌, ◌≤◌, ◌<◌, add-zero, add_comm, mul-zero, zero-mul, suc-mul, arith, lt-ltb, le-ltb, ne_eqb, eqb-true, ltb-true, ltb-false, ltb, eqb, pos, neg_ℤ, ◌+ℤ◌, ◌-ℤ◌, ◌*ℤ◌, length, take, get_or, get_or-take, Option, Some, None}
use borrow.Author.Tests.{eqb-false}
use lib.IntN.{+ℤ_assoc, +ℤ_comm, +ℤ_idr, +ℤ_invr, +ℤ-neg_ℤ_cancel, neg_ℤ-+ℤ, pos-+ℤ-pos, zero-*ℤ, suc_ℤ-*ℤ}
use Rattle.lists.specs.Choices.{pick}
use Rattle.lists.specs.Sums.{total}
use Rattle.lists.specs.Runs.{answers}
use Rattle.lists.proofs.Tests.{cases}
use Rattle.lists.proofs.Sums.{total_take_suc}
use Rattle.terms.specs.Table.{Table, rate, burst, no_requestor, requestor_at, requestors_of}
use Rattle.terms.specs.Answers.{Answer, accepted, granted, idle, refused}
use Rattle.terms.specs.Figures.{bursts_above, rate_left}
use Rattle.lead_parts.specs.Counts.{bytes_equal}
use Rattle.lead_parts.specs.Lead.{lead_of, lead_in}
use Rattle.terms.proofs.Sound.{sound_open}
use Rattle.rule.specs.Grants.{to_place, to_first}
use Rattle.rule.specs.Calls.{ruled}
use Rattle.rule.specs.Log.{run}
use Rattle.rule.proofs.Grants.{to_first_zero}
use Rattle.rule.proofs.Kept.{fair_table}
use Rattle.rule.proofs.Logs.{length_log}
use Rattle.guarantees.specs.Counts.{slots_in, grants_to, grants_to_first}
use Rattle.guarantees.specs.RunSlots.{slots, answer_byte}
use Rattle.guarantees.specs.Leads.{summed_leads, LeadsOfARun}
use Rattle.guarantees.proofs.Grants.{grant_to, grant_to_first}
use Rattle.guarantees.proofs.Sound.{answers_ruled}
use Rattle.guarantees.proofs.Ceiling.{ceiling_from}
use Rattle.guarantees.proofs.ServiceBounds.{floor_from}
use Rattle.guarantees.proofs.RunSlots.{passed, run_is_slots}

-- ---- signed numbers

-- two differences add up
sub_add : (a b c d : ℕ) → (pos a -ℤ pos b) +ℤ (pos c -ℤ pos d) ≡ pos (a + c) -ℤ pos (b + d)
sub_add a b c d =
    +ℤ_assoc (pos a) (neg_ℤ (pos b)) (pos c +ℤ neg_ℤ (pos d))
    ∙ ap (λ z. pos a +ℤ z) (sym (+ℤ_assoc (neg_ℤ (pos b)) (pos c) (neg_ℤ (pos d))) ∙ ap (λ z. z +ℤ neg_ℤ (pos d)) (+ℤ_comm (neg_ℤ (pos b)) (pos c)) ∙ +ℤ_assoc (pos c) (neg_ℤ (pos b)) (neg_ℤ (pos d)))
    ∙ sym (+ℤ_assoc (pos a) (pos c) (neg_ℤ (pos b) +ℤ neg_ℤ (pos d)))
    ∙ ap₂ (λ y z. y +ℤ z) (pos-+ℤ-pos a c) (sym (neg_ℤ-+ℤ (pos b) (pos d)) ∙ ap neg_ℤ (pos-+ℤ-pos b d))

-- a difference that falls short by x
sub_most : (a b c : ℕ) → a ≤ c + b → (x : ℕ) × ((pos a -ℤ pos b) +ℤ pos x ≡ pos c)
sub_most a b c h =
    let x = c + b - a in
    let whole : a + x ≡ c + b = omega arith in
    let zero-less : pos x ≡ pos x -ℤ pos 0 = ap pos (sym (add-zero x)) in
    (x, ap (λ z. (pos a -ℤ pos b) +ℤ z) zero-less ∙ sub_add a b x 0 ∙ ap₂ (λ y z. pos y -ℤ pos z) whole (add-zero b) ∙ ap (λ z. z -ℤ pos b) (sym (pos-+ℤ-pos c b)) ∙ +ℤ-neg_ℤ_cancel (pos c) (pos b))

-- differences are the same where what is added crosswise is
sub_same : (a b c d : ℕ) → a + d ≡ c + b → pos a -ℤ pos b ≡ pos c -ℤ pos d
sub_same a b c d e =
    more a b d ∙ ap₂ (λ y z. pos y -ℤ pos z) e (add_comm b d) ∙ sym (more c d b)
  where
    more : (x y z : ℕ) → pos x -ℤ pos y ≡ pos (x + z) -ℤ pos (y + z)
    more x y z = sym (+ℤ_idr (pos x -ℤ pos y)) ∙ ap (λ w. (pos x -ℤ pos y) +ℤ w) (sym (+ℤ_invr (pos z))) ∙ sub_add x y z z

-- and a difference that is no further below 0 than c
neg_most : (a b c : ℕ) → b ≤ a + c → (x : ℕ) × (neg_ℤ (pos c) +ℤ pos x ≡ pos a -ℤ pos b)
neg_most a b c h =
    let x = a + c - b in
    let crosswise : x + b ≡ a + c = omega arith in
    (x, +ℤ_comm (neg_ℤ (pos c)) (pos x) ∙ sub_same x c a b crosswise)

times_sub : (r a b : ℕ) → pos r *ℤ (pos a -ℤ pos b) ≡ pos (r * a) -ℤ pos (r * b)
times_sub zero a b = zero-*ℤ (pos a -ℤ pos b) ∙ rw (zero-mul a, zero-mul b)
times_sub (suc r) a b =
    suc_ℤ-*ℤ (pos r) (pos a -ℤ pos b) ∙ ap (λ z. z +ℤ (pos a -ℤ pos b)) (times_sub r a b) ∙ sub_add (r * a) (r * b) a b ∙ rw (← suc-mul r a, ← suc-mul r b)

-- ---- the bytes of a log and the grants of its answers

-- of one answer
byte_to_place : (p : ℕ) (a : Answer) → p < 255 → pick (eqb (answer_byte a) p) 1 0 ≡ grant_to p a
unfolding to_place
byte_to_place p accepted h = rw (ne_eqb 255 p (λ e. omega arith))
byte_to_place p (granted stamp q) h = refl
byte_to_place p (idle stamp) h = rw (ne_eqb 255 p (λ e. omega arith))
byte_to_place p (refused r) h = rw (ne_eqb 255 p (λ e. omega arith))

bytes_to_place : (p : ℕ) (answered : List Answer) → p < 255 → bytes_equal p (map answer_byte answered) ≡ grants_to p answered
unfolding total
bytes_to_place p [] h = refl
bytes_to_place p (a ∷ answered) h = ap₂ (λ x y. x + y) (byte_to_place p a h) (bytes_to_place p answered h)

-- one place more
to_first_next : (k : ℕ) (g : Option ℕ) → to_first (suc k) g ≡ to_first k g + to_place k g
unfolding to_first to_place
to_first_next k None = refl
to_first_next k (Some i) = cases (eqb i k)
    (λ same. here (eqb-true i k same) same)
    (λ other. elsewhere (eqb-false i k other) other)
  where
    here : i ≡ k → eqb i k ≡ true → pick (ltb i (suc k)) 1 0 ≡ pick (ltb i k) 1 0 + pick (eqb i k) 1 0
    here e same = rw (same, lt-ltb i (suc k) (omega arith), le-ltb i k (omega arith))

    elsewhere : (i ≡ k → ⊥) → eqb i k ≡ false → pick (ltb i (suc k)) 1 0 ≡ pick (ltb i k) 1 0 + pick (eqb i k) 1 0
    elsewhere ne other = cases (ltb i k)
        (λ below. rw (other, below, lt-ltb i (suc k) (omega (arith, ltb-true i k below))))
        (λ above. rw (other, above, le-ltb i (suc k) (omega (arith, ltb-false i k above, ne))))

answer_next : (k : ℕ) (a : Answer) → grant_to_first (suc k) a ≡ grant_to_first k a + grant_to k a
answer_next k accepted = refl
answer_next k (granted stamp p) = to_first_next k (Some p)
answer_next k (idle stamp) = to_first_next k None
answer_next k (refused r) = refl

grants_next : (k : ℕ) (answered : List Answer) → grants_to_first (suc k) answered ≡ grants_to_first k answered + grants_to k answered
unfolding total
grants_next k [] = refl
grants_next k (a ∷ answered) = omega (arith, answer_next k a, grants_next k answered)

grants_none : (answered : List Answer) → grants_to_first 0 answered ≡ 0
unfolding total
grants_none [] = refl
grants_none (accepted ∷ answered) = omega (arith, grants_none answered)
grants_none (granted stamp p ∷ answered) = omega (arith, to_first_zero (Some p), grants_none answered)
grants_none (idle stamp ∷ answered) = omega (arith, to_first_zero None, grants_none answered)
grants_none (refused r ∷ answered) = omega (arith, grants_none answered)

-- ---- leads by grants

-- the log of some answers
module _ (t : Table) (limit : ℕ) (few : t.count ≤ limit) (small : limit ≤ 255) (answered : List Answer) (log : List ℕ) (L : ℕ)
    (bytes : log ≡ map answer_byte answered) (long : length log ≡ L) where
  lead_by_grants : (p : ℕ) → p < t.count → lead_in t p log ≡ pos (t.denominator * grants_to p answered) -ℤ pos ((requestor_at p t.requestors).rate * L)
  unfolding lead_of
  lead_by_grants p h =
      ap₂ (λ g l. pos (t.denominator * g) -ℤ pos ((requestor_at p t.requestors).rate * l)) (ap (bytes_equal p) bytes ∙ bytes_to_place p answered (omega arith)) long

  summed_by_grants : (k : ℕ) → k ≤ t.count → summed_leads t k log ≡ pos (t.denominator * grants_to_first k answered) -ℤ pos (total rate (take k (requestors_of t)) * L)
  unfolding summed_leads total
  summed_by_grants zero h =
      sym (ap₂ (λ a b. pos a -ℤ pos b) (ap (λ g. t.denominator * g) (grants_none answered) ∙ mul-zero t.denominator) (zero-mul L))
  summed_by_grants (suc k) h =
      let D = t.denominator in
      let rs = requestors_of t in
      let n = (requestor_at k t.requestors).rate in
      let row : get_or rs k no_requestor ≡ get_or t.requestors k no_requestor = get_or-take t.count t.requestors k no_requestor h in
      let rates : total rate (take (suc k) rs) ≡ total rate (take k rs) + n = total_take_suc rate no_requestor refl k rs ∙ ap (λ r. total rate (take k rs) + rate r) row in
      let grants : D * grants_to_first k answered + D * grants_to k answered ≡ D * grants_to_first (suc k) answered = rw (grants_next k answered) (omega arith) in
      let spent : total rate (take k rs) * L + n * L ≡ total rate (take (suc k) rs) * L = rw rates (omega arith) in
      ap₂ (λ y z. y +ℤ z) (summed_by_grants k (omega arith)) (lead_by_grants k h)
      ∙ sub_add (D * grants_to_first k answered) (total rate (take k rs) * L) (D * grants_to k answered) (n * L)
      ∙ ap₂ (λ a b. pos a -ℤ pos b) grants spent

pub leads_of_a_run : LeadsOfARun
leads_of_a_run limit s old small shape e =
    let p = passed limit s old e in
    let v = sound_open limit s shape p.sound_is in
    let inside = slots (length old) in
    let answered = answers ruled s inside in
    let r = run_is_slots limit s old shape e in
    let bytes = r.log ∙ ap (map answer_byte) (answers_ruled limit s inside v) in
    let long : length (run limit s old).log ≡ length old = ap length p.log ∙ length_log (length old) s in
    let all : slots_in answered ≡ length old = ap slots_in (sym (answers_ruled limit s inside v)) ∙ r.all_accepted in
    let few = (fair_table limit s v).count_most in
    let t = s.table in
    record {
      summed = λ k h.
          let ceiling = rw all at (ceiling_from limit t s refl v inside k h) in
          rw (summed_by_grants t limit few small answered (run limit s old).log (length old) bytes long k h)
          (sub_most (t.denominator * grants_to_first k answered) (total rate (take k (requestors_of t)) * length old) (total burst (take k (requestors_of t))) (omega (arith, ceiling)));
      waiting = λ q place waits enters.
          let floor = rw all at (floor_from limit t s refl v inside q place waits enters) in
          let R = rate_left t.denominator q (requestors_of t) in
          let n = (requestor_at q t.requestors).rate in
          let B = bursts_above q (requestors_of t) in
          let row : (requestor_at q (requestors_of t)).rate ≡ n = ap rate (get_or-take t.count t.requestors q no_requestor place) in
          let kept = subst (λ x. x * R * length old ≤ R * t.denominator * grants_to q answered + x * B) row floor in
          rw (lead_by_grants t limit few small answered (run limit s old).log (length old) bytes long q place, times_sub R (t.denominator * grants_to q answered) (n * length old))
          (neg_most (R * (t.denominator * grants_to q answered)) (R * (n * length old)) (n * B) (omega (arith, kept)));
    }
