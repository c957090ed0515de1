-- An element of a list goes down to place p, and each between them up by one: what the list is on the way, and afterwards. Assumes nothing.
use Rattle.std.proofs.Common.{◌≡◌, ap, sym, ◌∙◌, List, [], ◌∷◌, ◌++◌, ℕ, suc, ◌+◌, ◌-◌, ◌≤◌, ◌<◌, add-one, arith, length, get_or, set, take, drop, take-append-drop, length-take, take-suc, drop-cons, take-take, get_or-take, take_at, drop_at, get_or-append-add, get_or-drop, take-add, drop-drop}
use lib.Seq.{append_snoc, set_at, take-append-add, drop-append-add}
use Rattle.lists.specs.Sums.{total}
use Rattle.lists.specs.Orders.{without}
use Rattle.lists.proofs.Sums.{total_append}
use Rattle.lists.proofs.Orders.{length_without, without_last, without_append, total_without}

module _ {A : Type 0} (z : A) (xs : List A) (i : ℕ) where
  -- the elements between i and q have gone up
  abbrev pub raised : (q : ℕ) → List A
  raised q = without i (take (suc q) xs) ++ drop q xs

  -- element i stands behind them
  abbrev pub sunk : (p : ℕ) → List A
  sunk p = without i (take (suc p) xs) ++ get_or xs i z ∷ drop (suc p) xs

  module _ (q : ℕ) (low : i ≤ q) (high : q < length xs) where
    pub ahead_length : length (without i (take (suc q) xs)) ≡ q
    ahead_length =
        let long = length-take (suc q) xs in
        let one = length_without i (take (suc q) xs) (omega arith) in
        omega arith

    stored : (x : A) → set (raised q) q x ≡ without i (take (suc q) xs) ++ x ∷ drop (suc q) xs
    stored x =
        ap (λ l. set (without i (take (suc q) xs) ++ l) q x) (drop-cons xs q z high)
        ∙ set_at (without i (take (suc q) xs)) (get_or xs q z) (drop (suc q) xs) x q ahead_length

    pub sunk_last : set (raised q) q (get_or xs i z) ≡ sunk q
    sunk_last = stored (get_or xs i z)

    module _ (more : q + 1 < length xs) where
      pub next_there : get_or (raised q) (q + 1) z ≡ get_or xs (q + 1) z
      next_there =
          let at : q + 1 ≡ length (without i (take (suc q) xs)) + 1 = omega (arith, ahead_length) in
          ap (λ k. get_or (raised q) k z) at ∙ get_or-append-add (without i (take (suc q) xs)) (drop q xs) 1 z ∙ get_or-drop q xs 1 z

      pub raised_more : set (raised q) q (get_or xs (q + 1) z) ≡ raised (q + 1)
      raised_more =
          let x = get_or xs (suc q) z in
          let ahead = take (suc q) xs in
          let inside : i < length ahead = omega (arith, length-take (suc q) xs) in
          let longer : without i (take (suc (suc q)) xs) ≡ without i ahead ++ (x ∷ []) =
          ap (without i) (take-suc xs (suc q) z (omega arith)) ∙ without_append i ahead (x ∷ []) inside in
          rw add-one
          (stored x ∙ sym (append_snoc (without i ahead) x (drop (suc q) xs)) ∙ ap (λ l. l ++ drop (suc q) xs) (sym longer))

  pub raised_none : i < length xs → raised i ≡ xs
  raised_none h =
      let long : length (take (suc i) xs) ≡ suc i = omega (arith, length-take (suc i) xs) in
      let ahead : without i (take (suc i) xs) ≡ take i xs = without_last i (take (suc i) xs) long ∙ take-take i (suc i) xs (omega arith) in
      ap (λ l. l ++ drop i xs) ahead ∙ take-append-drop i xs

-- ---- the first k of n, of which element i goes to their end

module _ {A : Type 0} (z : A) (xs : List A) (i k n : ℕ) (inside : i < k) (few : k ≤ n) (long : n ≤ length xs) where
  abbrev lowered : List A
  lowered = without i (take k xs) ++ get_or xs i z ∷ drop k xs

  others_length : suc (length (without i (take k xs))) ≡ k
  others_length = length_without i (take k xs) (omega (arith, length-take k xs)) ∙ omega (arith, length-take k xs)

  pub lowered_take : take (k - 1) lowered ≡ without i (take k xs)
  lowered_take = take_at (without i (take k xs)) (get_or xs i z ∷ drop k xs) (k - 1) (omega (arith, others_length))

  pub lowered_drop : drop (k - 1) lowered ≡ get_or xs i z ∷ drop k xs
  lowered_drop = drop_at (without i (take k xs)) (get_or xs i z ∷ drop k xs) (k - 1) (omega (arith, others_length))

  behind : n ≡ length (without i (take k xs)) + suc (n - k)
  behind = omega (arith, others_length)

  -- past n nothing moves
  pub lowered_past : drop n lowered ≡ drop n xs
  lowered_past =
      let all : k + (n - k) ≡ n = omega arith in
      ap (λ m. drop m lowered) behind ∙ drop-append-add (without i (take k xs)) (get_or xs i z ∷ drop k xs) (suc (n - k))
      ∙ drop-drop (n - k) k xs ∙ ap (λ m. drop m xs) all

  -- and every sum over the first n stands
  pub lowered_total : (f : A → ℕ) → total f (take n lowered) ≡ total f (take n xs)
  unfolding total
  lowered_total f =
      let r = get_or xs i z in
      let others = without i (take k xs) in
      let below = take (n - k) (drop k xs) in
      let all : k + (n - k) ≡ n = omega arith in
      let now : take n lowered ≡ others ++ r ∷ below =
      ap (λ m. take m lowered) behind ∙ take-append-add others (r ∷ drop k xs) (suc (n - k)) in
      let before : take n xs ≡ take k xs ++ below = ap (λ m. take m xs) (sym all) ∙ take-add k (n - k) xs in
      let own : get_or (take k xs) i z ≡ r = get_or-take k xs i z inside in
      let split = total_without z f i (take k xs) (omega (arith, length-take k xs)) in
      ap (total f) now ∙ omega (arith, total_append f others (r ∷ below), split, ap f own, total_append f (take k xs) below, ap (total f) before)
