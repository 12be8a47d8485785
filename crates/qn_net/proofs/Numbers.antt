-- The groups stay in the order of their numbers.
use Rattle.std.proofs.Common.{◌≡◌, ℕ, suc, ◌<◌, List, [], ◌∷◌, ◌++◌, sym, subst, arith}
use Rattle.qn_net.specs.Groups.{Member, TensorGroup, AllAbove, AreInOrder}
use Rattle.qn_net.specs.Plans.{start}

above_first : (n : ℕ) (gs hs : List TensorGroup) → AllAbove n (gs ++ hs) → AllAbove n gs
above_first n [] hs a = tt
above_first n (g ∷ gs) hs a = (a.0, above_first n gs hs a.1)

above_second : (n : ℕ) (gs hs : List TensorGroup) → AllAbove n (gs ++ hs) → AllAbove n hs
above_second n [] hs a = a
above_second n (g ∷ gs) hs a = above_second n gs hs a.1

above-append : (n : ℕ) (gs hs : List TensorGroup) → AllAbove n gs → AllAbove n hs → AllAbove n (gs ++ hs)
above-append n [] hs a b = b
above-append n (g ∷ gs) hs a b = (a.0, above-append n gs hs a.1 b)

-- the later group is left out
order_without : (between : List TensorGroup) (h : TensorGroup) (behind : List TensorGroup) → AreInOrder (between ++ (h ∷ behind)) → AreInOrder (between ++ behind)
order_without [] h behind o = o.1
order_without (g ∷ gs) h behind o =
    (above-append g.number gs behind (above_first g.number gs (h ∷ behind) o.0) (above_second g.number gs (h ∷ behind) o.0).1, order_without gs h behind o.1)

pub order_pair : (before : List TensorGroup) (g made : TensorGroup) (between : List TensorGroup) (h : TensorGroup) (behind : List TensorGroup) → made.number ≡ g.number →
    AreInOrder (before ++ (g ∷ (between ++ (h ∷ behind)))) → AreInOrder (before ++ (made ∷ (between ++ behind)))
order_pair [] g made between h behind e o = (
  subst (λ n. AllAbove n (between ++ behind)) (sym e)
      (above-append g.number between behind (above_first g.number between (h ∷ behind) o.0) (above_second g.number between (h ∷ behind) o.0).1),
  order_without between h behind o.1,
)
order_pair (f ∷ before) g made between h behind e o =
    let rest = above_second f.number before (g ∷ (between ++ (h ∷ behind))) o.0 in (
      above-append f.number before (made ∷ (between ++ behind)) (above_first f.number before (g ∷ (between ++ (h ∷ behind))) o.0) (
        subst (λ n. f.number < n) (sym e) rest.0,
        above-append f.number between behind (above_first f.number between (h ∷ behind) rest.1) (above_second f.number between (h ∷ behind) rest.1).1,
      ),
      order_pair before g made between h behind e o.1,
    )

pub order_trace : (before : List TensorGroup) (g made : TensorGroup) (behind : List TensorGroup) → made.number ≡ g.number →
    AreInOrder (before ++ (g ∷ behind)) → AreInOrder (before ++ (made ∷ behind))
order_trace [] g made behind e o = (subst (λ n. AllAbove n behind) (sym e) o.0, o.1)
order_trace (f ∷ before) g made behind e o =
    let rest = above_second f.number before (g ∷ behind) o.0 in (
      above-append f.number before (made ∷ behind) (above_first f.number before (g ∷ behind) o.0) (subst (λ n. f.number < n) (sym e) rest.0, rest.1),
      order_trace before g made behind e o.1,
    )

start_above : (n m : ℕ) (ms : List Member) → n < m → AllAbove n (start m ms)
start_above n m [] l = tt
start_above n m (k ∷ ks) l = (l, start_above n (suc m) ks (omega arith))

pub start_ordered : (n : ℕ) (ms : List Member) → AreInOrder (start n ms)
start_ordered n [] = tt
start_ordered n (m ∷ ms) = (start_above n (suc n) ms (omega arith), start_ordered (suc n) ms)
