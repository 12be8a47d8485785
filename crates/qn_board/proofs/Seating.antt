-- Seats by number, when one of them changes, is added or leaves.
use Rattle.std.proofs.Common.{◌≡◌, ℕ, zero, suc, ◌+◌, ◌≤◌, ◌≢◌, ◌⊎◌, List, [], ◌∷◌, ◌++◌, length, set, min, refl, ap, inl, inr, arith}
use Rattle.std.specs.Prelude.{Option, Some, None}
use Rattle.qn_board.specs.Lists.{greatest, least_of}
use Rattle.qn_board.specs.Seats.{SeatValue, seat_at, total, least_noted}

pub seat_here : (ss : List (Option SeatValue)) (k : ℕ) (s : SeatValue) (v : Option SeatValue) → seat_at ss k ≡ Some s → seat_at (set ss k v) k ≡ v
seat_here [] k s v e = absurd (cc e)
seat_here (t ∷ ss) zero s v e = refl
seat_here (t ∷ ss) (suc k) s v e = seat_here ss k s v e

pub seat_else : (ss : List (Option SeatValue)) (k j : ℕ) (v : Option SeatValue) → j ≢ k → seat_at (set ss k v) j ≡ seat_at ss j
seat_else [] k j v n = refl
seat_else (t ∷ ss) zero zero v n = absurd (n refl)
seat_else (t ∷ ss) zero (suc j) v n = refl
seat_else (t ∷ ss) (suc k) zero v n = refl
seat_else (t ∷ ss) (suc k) (suc j) v n = seat_else ss k j v (λ e. n (ap suc e))

pub seat_more : (ss : List (Option SeatValue)) (k : ℕ) (s : SeatValue) (v : Option SeatValue) → seat_at (ss ++ v ∷ []) k ≡ Some s → (seat_at ss k ≡ Some s) ⊎ (v ≡ Some s)
seat_more [] zero s v e = inr e
seat_more [] (suc k) s v e = absurd (cc e)
seat_more (t ∷ ss) zero s v e = inl e
seat_more (t ∷ ss) (suc k) s v e = seat_more ss k s v e

pub seat_past : (ss : List (Option SeatValue)) (k : ℕ) → length ss ≤ k → seat_at ss k ≡ None
seat_past [] k h = refl
seat_past (t ∷ ss) zero h = absurd (omega arith)
seat_past (t ∷ ss) (suc k) h = seat_past ss k (omega arith)

same_some : (s t : SeatValue) → Some t ≡ Some s → t ≡ s
same_some s t e = cc e

-- a place has one seat
pub one_seat : (v : Option SeatValue) (s u : SeatValue) → v ≡ Some s → v ≡ Some u → u ≡ s
one_seat v s u a b = cc (a, b)

module _ (f : SeatValue → ℕ) where
  pub total_set : (ss : List (Option SeatValue)) (k : ℕ) (s s' : SeatValue) → seat_at ss k ≡ Some s → total f (set ss k (Some s')) + f s ≡ total f ss + f s'
  total_set [] k s s' e = absurd (cc e)
  total_set (None ∷ ss) zero s s' e = absurd (cc e)
  total_set (None ∷ ss) (suc k) s s' e = total_set ss k s s' e
  total_set (Some t ∷ ss) zero s s' e = let p : f t ≡ f s = ap f (same_some s t e) in omega arith
  total_set (Some t ∷ ss) (suc k) s s' e = omega (arith, total_set ss k s s' e)

  pub total_gone : (ss : List (Option SeatValue)) (k : ℕ) (s : SeatValue) → seat_at ss k ≡ Some s → total f (set ss k None) + f s ≡ total f ss
  total_gone [] k s e = absurd (cc e)
  total_gone (None ∷ ss) zero s e = absurd (cc e)
  total_gone (None ∷ ss) (suc k) s e = total_gone ss k s e
  total_gone (Some t ∷ ss) zero s e = let p : f t ≡ f s = ap f (same_some s t e) in omega arith
  total_gone (Some t ∷ ss) (suc k) s e = omega (arith, total_gone ss k s e)

  pub total_new : (ss : List (Option SeatValue)) (s : SeatValue) → total f (ss ++ Some s ∷ []) ≡ total f ss + f s
  total_new [] s = omega arith
  total_new (None ∷ ss) s = total_new ss s
  total_new (Some t ∷ ss) s = omega (arith, total_new ss s)

  pub total_part : (ss : List (Option SeatValue)) (k : ℕ) (s : SeatValue) → seat_at ss k ≡ Some s → f s ≤ total f ss
  total_part ss k s e = omega (arith, total_gone ss k s e)

pub least_le : (ss : List (Option SeatValue)) → least_noted ss ≤ greatest
least_le [] = omega arith
least_le (None ∷ ss) = least_le ss
least_le (Some s ∷ ss) = omega (arith, least_le ss)

pub least_under : (ss : List (Option SeatValue)) (k : ℕ) (s : SeatValue) → seat_at ss k ≡ Some s → least_noted ss ≤ least_of s.noted
least_under [] k s e = absurd (cc e)
least_under (None ∷ ss) zero s e = absurd (cc e)
least_under (None ∷ ss) (suc k) s e = least_under ss k s e
least_under (Some t ∷ ss) zero s e = let p : least_of t.noted ≡ least_of s.noted = ap (λ (x : SeatValue). least_of x.noted) (same_some s t e) in omega arith
least_under (Some t ∷ ss) (suc k) s e = omega (arith, least_under ss k s e)

pub least_set : (ss : List (Option SeatValue)) (k : ℕ) (s s' : SeatValue) (t : ℕ) → seat_at ss k ≡ Some s → least_of s'.noted ≡ min (least_of s.noted) t
    → least_noted (set ss k (Some s')) ≡ min (least_noted ss) t
least_set [] k s s' t e h = absurd (cc e)
least_set (None ∷ ss) zero s s' t e h = absurd (cc e)
least_set (None ∷ ss) (suc k) s s' t e h = least_set ss k s s' t e h
least_set (Some u ∷ ss) zero s s' t e h = let p : least_of u.noted ≡ least_of s.noted = ap (λ (x : SeatValue). least_of x.noted) (same_some s u e) in omega arith
least_set (Some u ∷ ss) (suc k) s s' t e h = omega (arith, least_set ss k s s' t e h)

pub least_gone : (ss : List (Option SeatValue)) (k : ℕ) (s : SeatValue) → seat_at ss k ≡ Some s → least_noted ss ≡ min (least_of s.noted) (least_noted (set ss k None))
least_gone [] k s e = absurd (cc e)
least_gone (None ∷ ss) zero s e = absurd (cc e)
least_gone (None ∷ ss) (suc k) s e = least_gone ss k s e
least_gone (Some t ∷ ss) zero s e = let p : least_of t.noted ≡ least_of s.noted = ap (λ (x : SeatValue). least_of x.noted) (same_some s t e) in omega arith
least_gone (Some t ∷ ss) (suc k) s e = omega (arith, least_gone ss k s e)

pub least_new : (ss : List (Option SeatValue)) (s : SeatValue) → s.noted ≡ [] → least_noted (ss ++ Some s ∷ []) ≡ least_noted ss
least_new [] s e = let p : least_of s.noted ≡ greatest = ap least_of e in omega arith
least_new (None ∷ ss) s e = least_new ss s e
least_new (Some t ∷ ss) s e = omega (arith, least_new ss s e)
