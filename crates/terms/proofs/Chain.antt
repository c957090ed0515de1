-- What names that pass check 11 say, and a chain figure that was told. Assumes nothing.
use Rattle.std.proofs.Common.{◌≡◌, refl, ap, List, [], ◌∷◌, ◌++◌, ℕ, zero, suc, ◌<◌, zero-add, arith, ltb-true, length, Option, None, Some}
use Rattle.terms.specs.declared.refusals.Refusal.{Refusal}
use Rattle.terms.specs.Refusals.{Verdict, faultless, fault, then, resolve}
use Rattle.terms.specs.Table.{Table, requestors_of}
use Rattle.terms.specs.State.{State, place_verdict}
use Rattle.terms.specs.Chain.{follows, chain_to, chain_of, chain_figure, name_verdict, names_verdict, following_verdict, figured, refused, chain_verdict, chain}
use Rattle.terms.proofs.Checks.{gate_open, then_open, each_place_at}

-- every link is one of the first n places
abbrev pub Below : (n : ℕ) → (links : List ℕ) → Type 0
Below n [] = Unit {0}
Below n (p ∷ links) = (p < n) × Below n links

below_more : (n : ℕ) (links : List ℕ) (p : ℕ) → Below n links → p < n → Below n (links ++ (p ∷ []))
below_more n [] p b h = (h, tt)
below_more n (q ∷ links) p (g, b) h = (g, below_more n links p b h)

-- the place followed, if there is one, is one of the first n
abbrev pub BelowIf : (n : ℕ) → Option ℕ → Type 0
BelowIf n None = Unit {0}
BelowIf n (Some p) = p < n

-- names that pass check 11
module _ (t : Table) (names : List ℕ) (rows : length (requestors_of t) ≡ t.count) (ok : names_verdict t names ≡ faultless) where
  pub followed_below : (p : ℕ) → p < t.count → BelowIf t.count (follows names p)
  unfolding name_verdict
  followed_below p h = go (follows names p) refl
    where
      go : (o : Option ℕ) → follows names p ≡ o → BelowIf t.count o
      go None e = tt
      go (Some q) e =
          let here = each_place_at (name_verdict t.count names) 0 (requestors_of t) ok p (omega arith) in
          ltb-true q t.count (rw e at (gate_open _ _ _ (rw (zero-add p) at here)).0)

  pub chain_below : (most : ℕ) (o : Option ℕ) → BelowIf t.count o → Below t.count (chain_to names most o)
  unfolding chain_to
  chain_below zero o b = tt
  chain_below (suc most) None b = tt
  chain_below (suc most) (Some p) b = below_more t.count (chain_to names most (follows names p)) p (chain_below most (follows names p) (followed_below p b)) b

-- what the call comes to: the place or the state turns it down, or following does, or the figure is told
module _ (limit : ℕ) (s : State) (p : ℕ) (names : List ℕ) where
  pub chain_no_place : (r : Refusal) → place_verdict limit s p ≡ fault r → chain limit s p names ≡ refused r
  unfolding chain chain_verdict then
  chain_no_place r e = rw e

  pub chain_astray : (r : Refusal) → place_verdict limit s p ≡ faultless → following_verdict s.table names ≡ fault r → chain limit s p names ≡ refused r
  unfolding chain chain_verdict then
  chain_astray r e f = rw (e, f)

  pub chain_figured : (figure : ℕ) → place_verdict limit s p ≡ faultless → following_verdict s.table names ≡ faultless
      → figure ≡ chain_figure s.table (chain_of s.table names p) → chain limit s p names ≡ figured figure
  unfolding chain chain_verdict then
  chain_figured figure e f is = rw (e, f, is)

  -- and a refusal is that of its verdict
  pub chain_refused : (r : Refusal) → chain limit s p names ≡ refused r → chain_verdict limit s p names ≡ fault r
  unfolding chain
  chain_refused r e = go (chain_verdict limit s p names) e
    where
      go : (v : Verdict) → resolve v (figured (chain_figure s.table (chain_of s.table names p))) refused ≡ refused r → v ≡ fault r
      go faultless f = let z : ◌≡◌ {A = ℕ} 0 1 = cc in absurd (omega arith)
      go (fault x) f = let same : x ≡ r = cc in ap fault same

-- a chain figure that was told
pub record Figured (limit : ℕ) (s : State) (p : ℕ) (names : List ℕ) (figure : ℕ) : Type 0 where
  pub place : place_verdict limit s p ≡ faultless
  pub following : following_verdict s.table names ≡ faultless
  pub is : figure ≡ chain_figure s.table (chain_of s.table names p)

pub chain_open : (limit : ℕ) (s : State) (p : ℕ) (names : List ℕ) (figure : ℕ) → chain limit s p names ≡ figured figure → Figured limit s p names figure
unfolding chain chain_verdict
chain_open limit s p names figure e =
    let (passes, is) = go (chain_verdict limit s p names) e in
    let (place, following) = then_open _ _ passes in
    record { place = place; following = following; is = is }
  where
    go : (v : Verdict) → resolve v (figured (chain_figure s.table (chain_of s.table names p))) refused ≡ figured figure
        → (v ≡ faultless) × (figure ≡ chain_figure s.table (chain_of s.table names p))
    go faultless f = (refl, cc)
    go (fault r) f = let z : ◌≡◌ {A = ℕ} 0 1 = cc in absurd (omega arith)
