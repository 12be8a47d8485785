-- The plan where tensors are replaced: step by step it takes groups of the same tensors.
use Rattle.std.proofs.Common.{◌≡◌, ℕ, zero, suc, ℤ, Bool, true, false, ◌||◌, ◌&&◌, not, cond, List, [], ◌∷◌, ◌++◌, refl, sym, ap, subst, take, int_eq}
use Rattle.std.proofs.lemmas.Bool.{or_parts}
use Rattle.qn_sign.specs.Sign.{is_in}
use Rattle.qn_value.specs.Networks.{End, Bond, Parities, same_end, labels, odd_flux}
use Rattle.qn_net.specs.Groups.{Member, TensorGroup, nodes, joined, closed}
use Rattle.qn_net.specs.Steps.{Step, State, result, after, carry}
use Rattle.qn_net.specs.Steps.Step.{pair, trace}
use Rattle.qn_net.specs.Plans.{has_label, Found, past, find, select, meet_second, meet_first, taken, products, all_products, plan, start}
use Rattle.qn_net.specs.Plans.Found.{nowhere, found}
use Rattle.qn_replace.specs.Replaced.{AreReplaced, IsAlike, AreAlike, IsAlikeStep, AreAlikeSteps}
use Rattle.qn_replace.proofs.AlikeGroups.{joined-alike, closed-alike, alike-append, between-alike}

abbrev two : List End → ℤ → Bool
two es l = is_in same_end (record { label = l; inward = true }) es && is_in same_end (record { label = l; inward = false }) es

abbrev on : List End → ℤ → Bool
on es l = is_in same_end (record { label = l; inward = true }) es || is_in same_end (record { label = l; inward = false }) es

module _ (test : ℕ → Bool) where
  abbrev pub AreAlikeStates : State → State → Type 0
  AreAlikeStates s s' = AreAlike test s.groups s'.groups × (s.left ≡ s'.left)

  abbrev IsFoundAlike : Found → Found → Type 0
  IsFoundAlike nowhere nowhere = Unit {0}
  IsFoundAlike nowhere (found before g behind) = ⊥
  IsFoundAlike (found before g behind) nowhere = ⊥
  IsFoundAlike (found before g behind) (found before' g' behind') = AreAlike test before before' × IsAlike test g g' × AreAlike test behind behind'

  labels_alike : (l : ℤ) (g g' : TensorGroup) → IsAlike test g g' → has_label l g ≡ has_label l g'
  labels_alike l g g' k = ap (λ (es : List End). is_in same_end (record { label = l; inward = true }) es || is_in same_end (record { label = l; inward = false }) es) k.ends

  past-alike : (g g' : TensorGroup) → IsAlike test g g' → (f f' : Found) → IsFoundAlike f f' → IsFoundAlike (past g f) (past g' f')
  past-alike g g' k nowhere nowhere h = tt
  past-alike g g' k nowhere (found before' x' behind') h = absurd h
  past-alike g g' k (found before x behind) nowhere h = absurd h
  past-alike g g' k (found before x behind) (found before' x' behind') h = ((k, h.0), h.1, h.2)

  find-alike : (l : ℤ) (gs gs' : List TensorGroup) → AreAlike test gs gs' → IsFoundAlike (find l gs) (find l gs')
  find-alike l [] [] h = tt
  find-alike l [] (g' ∷ gs') h = absurd h
  find-alike l (g ∷ gs) [] h = absurd h
  find-alike l (g ∷ gs) (g' ∷ gs') h =
      subst (λ b. IsFoundAlike (find l (g ∷ gs)) (cond b (found [] g' gs') (past g' (find l gs')))) (labels_alike l g g' h.0)
      (go (has_label l g) (find-alike l gs gs' h.1))
    where
      go : (b : Bool) → IsFoundAlike (find l gs) (find l gs') → IsFoundAlike (cond b (found [] g gs) (past g (find l gs))) (cond b (found [] g' gs') (past g' (find l gs')))
      go true ih = (tt, h.0, h.1)
      go false ih = past-alike g g' h.0 (find l gs) (find l gs') ih

  second-alike : (left left' : List Bond) → left ≡ left' → (before before' : List TensorGroup) (g g' : TensorGroup) (behind behind' : List TensorGroup) →
      AreAlike test before before' → IsAlike test g g' → AreAlike test behind behind' → (f f' : Found) → IsFoundAlike f f' →
      IsAlikeStep test (meet_second left before g behind f) (meet_second left' before' g' behind' f')
  second-alike left left' e before before' g g' behind behind' hb hg hn nowhere nowhere h = (
    hb,
    hg,
    hn,
    (λ i. select (λ l. two (hg.ends i) l) (e i)),
    (λ i. select (λ l. not (two (hg.ends i) l)) (e i)),
  )
  second-alike left left' e before before' g g' behind behind' hb hg hn nowhere (found between' x' rest') h = absurd h
  second-alike left left' e before before' g g' behind behind' hb hg hn (found between x rest) nowhere h = absurd h
  second-alike left left' e before before' g g' behind behind' hb hg hn (found between x rest) (found between' x' rest') h = (
    hb,
    hg,
    h.0,
    h.1,
    h.2,
    (λ i. select (λ l. on (hg.ends i) l && on (h.1.ends i) l) (e i)),
    (λ i. select (λ l. not (on (hg.ends i) l && on (h.1.ends i) l)) (e i)),
  )

  taken-alike : (l : ℤ) (s s' : State) → AreAlikeStates s s' → AreAlikeSteps test (taken l s) (taken l s')
  taken-alike l s s' h =
      subst (λ b. AreAlikeSteps test (taken l s) (cond b (meet_first l s'.left (find l s'.groups)) [])) (ap (λ (bs : List Bond). is_in int_eq l (labels bs)) h.1)
      (go (is_in int_eq l (labels s.left)))
    where
      first : (f f' : Found) → IsFoundAlike f f' → AreAlikeSteps test (meet_first l s.left f) (meet_first l s'.left f')
      first nowhere nowhere k = tt
      first nowhere (found before' g' behind') k = absurd k
      first (found before g behind) nowhere k = absurd k
      first (found before g behind) (found before' g' behind') k =
          (second-alike s.left s'.left h.1 before before' g g' behind behind' k.0 k.1 k.2 (find l behind) (find l behind') (find-alike l behind behind' k.2), tt)

      go : (b : Bool) → AreAlikeSteps test (cond b (meet_first l s.left (find l s.groups)) []) (cond b (meet_first l s'.left (find l s'.groups)) [])
      go true = first (find l s.groups) (find l s'.groups) (find-alike l s.groups s'.groups h.0)
      go false = tt

  module _ (par : Parities) where
    pub result-alike : (t t' : Step) → IsAlikeStep test t t' → IsAlike test (result par t) (result par t')
    result-alike (pair before g between h behind bonds left) (pair before' g' between' h' behind' bonds' left') k =
        joined-alike test par (odd_flux (nodes between)) (odd_flux (nodes between')) g g' h h' bonds bonds' (between-alike test between between' k.2) k.1 k.3 k.5
    result-alike (pair before g between h behind bonds left) (trace before' g' behind' bonds' left') k = absurd k
    result-alike (trace before g behind bonds left) (pair before' g' between' h' behind' bonds' left') k = absurd k
    result-alike (trace before g behind bonds left) (trace before' g' behind' bonds' left') k = closed-alike test par g g' bonds bonds' k.1 k.3

    after-alike : (t t' : Step) → IsAlikeStep test t t' → AreAlikeStates (after par t) (after par t')
    after-alike (pair before g between h behind bonds left) (pair before' g' between' h' behind' bonds' left') k = (
      alike-append test before before' (joined par (odd_flux (nodes between)) g h bonds ∷ (between ++ behind)) (joined par (odd_flux (nodes between')) g' h' bonds' ∷ (between' ++ behind')) k.0 (
        joined-alike test par (odd_flux (nodes between)) (odd_flux (nodes between')) g g' h h' bonds bonds' (between-alike test between between' k.2) k.1 k.3 k.5,
        alike-append test between between' behind behind' k.2 k.4,
      ),
      k.6,
    )
    after-alike (pair before g between h behind bonds left) (trace before' g' behind' bonds' left') k = absurd k
    after-alike (trace before g behind bonds left) (pair before' g' between' h' behind' bonds' left') k = absurd k
    after-alike (trace before g behind bonds left) (trace before' g' behind' bonds' left') k = (
      alike-append test before before' (closed par g bonds ∷ behind) (closed par g' bonds' ∷ behind') k.0 (closed-alike test par g g' bonds bonds' k.1 k.3, k.2),
      k.4,
    )

    pub carry-alike : (ts us : List Step) → AreAlikeSteps test ts us → (s s' : State) → AreAlikeStates s s' → AreAlikeStates (carry par ts s) (carry par us s')
    carry-alike [] [] k s s' h = h
    carry-alike [] (u ∷ us) k s s' h = absurd k
    carry-alike (t ∷ ts) [] k s s' h = absurd k
    carry-alike (t ∷ ts) (u ∷ us) k s s' h = carry-alike ts us k.1 (after par t) (after par u) (after-alike t u k.0)

    products-alike : (left left' : List Bond) → left ≡ left' → (g g' : TensorGroup) (hs hs' : List TensorGroup) → IsAlike test g g' → AreAlike test hs hs' →
        AreAlikeSteps test (products par left g hs) (products par left' g' hs')
    products-alike left left' e g g' [] [] k h = tt
    products-alike left left' e g g' [] (x' ∷ hs') k h = absurd h
    products-alike left left' e g g' (x ∷ hs) [] k h = absurd h
    products-alike left left' e g g' (x ∷ hs) (x' ∷ hs') k h = (
      (tt, k, tt, h.0, h.1, refl, e),
      products-alike left left' e (joined par false g x []) (joined par false g' x' []) hs hs' (joined-alike test par false false g g' x x' [] [] refl k h.0 refl) h.1,
    )

    steps-append : (ts ts' us us' : List Step) → AreAlikeSteps test ts ts' → AreAlikeSteps test us us' → AreAlikeSteps test (ts ++ us) (ts' ++ us')
    steps-append [] [] us us' h k = k
    steps-append [] (t' ∷ ts') us us' h k = absurd h
    steps-append (t ∷ ts) [] us us' h k = absurd h
    steps-append (t ∷ ts) (t' ∷ ts') us us' h k = (h.0, steps-append ts ts' us us' h.1 k)

    pub plan-alike : (ls : List ℤ) (s s' : State) → AreAlikeStates s s' → AreAlikeSteps test (plan par ls s) (plan par ls s')
    plan-alike [] s s' h = go s.groups s'.groups h.0
      where
        go : (gs gs' : List TensorGroup) → AreAlike test gs gs' → AreAlikeSteps test (all_products par s.left gs) (all_products par s'.left gs')
        go [] [] k = tt
        go [] (g' ∷ gs') k = absurd k
        go (g ∷ gs) [] k = absurd k
        go (g ∷ gs) (g' ∷ gs') k = products-alike s.left s'.left h.1 g g' gs gs' k.0 k.1
    plan-alike (l ∷ ls) s s' h =
        steps-append (taken l s) (taken l s') (plan par ls (carry par (taken l s) s)) (plan par ls (carry par (taken l s') s')) (taken-alike l s s' h)
        (plan-alike ls (carry par (taken l s) s) (carry par (taken l s') s') (carry-alike (taken l s) (taken l s') (taken-alike l s s' h) s s' h))

  pub take-alike : (n : ℕ) (ts us : List Step) → AreAlikeSteps test ts us → AreAlikeSteps test (take n ts) (take n us)
  take-alike zero ts us h = subst (λ xs. AreAlikeSteps test xs (take 0 us)) (sym (none ts)) (subst (AreAlikeSteps test []) (sym (none us)) tt)
    where
      none : (xs : List Step) → take 0 xs ≡ []
      none [] = refl
      none (x ∷ xs) = refl
  take-alike (suc n) [] [] h = tt
  take-alike (suc n) [] (u ∷ us) h = absurd h
  take-alike (suc n) (t ∷ ts) [] h = absurd h
  take-alike (suc n) (t ∷ ts) (u ∷ us) h = (h.0, take-alike n ts us h.1)

  pub start-alike : (n : ℕ) (ms ks : List Member) → AreReplaced test n ms ks → AreAlike test (start n ms) (start n ks)
  start-alike n [] [] h = tt
  start-alike n [] (k ∷ ks) h = absurd h
  start-alike n (m ∷ ms) [] h = absurd h
  start-alike n (m ∷ ms) (k ∷ ks) h = (
    record {
      number = refl;
      ends = h.0;
      odd = h.1;
      members = (refl, h.2, tt);
      summed = refl;
      role = h.3;
      same = λ none.
          let e : m ≡ k = h.4 ((or_parts (test n) false none).0) in
          λ i. record { number = n; node = (e i).node; members = record { number = n; node = (e i).node; flux = (e i).flux } ∷ []; summed = []; role = (e i).role };
    },
    start-alike (suc n) ms ks h.5,
  )
