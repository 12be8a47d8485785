-- Chains under their own labels and under those of a larger network.
use Rattle.std.proofs.Common.{◌≡◌, ℕ, zero, suc, ◌+◌, ◌-◌, ◌*◌, ◌<◌, ℤ, negsuc, Bool, true, false, not, cond, List, [], ◌∷◌, ◌++◌, map, reverse, refl, sym, ◌∙◌, ap, ap₂, subst, arith, int_eq}
use Rattle.std.specs.Prelude.{nat_lt}
use Rattle.std.proofs.lemmas.Bool.Decides.{nat_tests}
use Rattle.qn_sign.specs.Sign.{is_in, IsDistinct, Perm}
use Rattle.qn_sign.specs.Sign.Perm.{then_by}
use Rattle.qn_value.specs.Networks.{End, Node, Bond, Assignment, same_end, word, pairs_of, goal, values, labels, flat, contract, relabel, relabel_node, relabel_bond, IsNetwork}
use Rattle.qn_sign.proofs.Parity.{perm-sym, perm_under}
use Rattle.qn_sign.proofs.Order.{is_in-perm, distinct-perm}
use Rattle.qn_sign.proofs.Members.{without, perm-without}
use Rattle.qn_value.proofs.Sums.{perm-map}
use Rattle.std.proofs.lemmas.Bool.{or_left}
use Rattle.qn_value.proofs.NetLaws.{end_test}
use Rattle.qn_value.proofs.Relabel
use Rattle.std.proofs.lemmas.List.{map-append}
use Rattle.qn_value.proofs.Relabel.{word-map}
use Rattle.qn_braket.specs.Conjugates.{across, flip, conj_ends}
use Rattle.qn_braket.specs.Brakets.{outs, ins_back, AreUntwisted}
use Rattle.qn_braket.specs.Pieces.{Piece, chain, chain_links, site_lines, state_chain, operator_chain, piece_amplitude, piece_element, state_names, operator_names}
use Rattle.qn_braket.specs.ChainLabels.{own_link, own_upper, own_lower}
use Rattle.qn_braket.proofs.Back.{reverse-map}
use Rattle.qn_braket.proofs.Conjugate.{conj_values}
use Rattle.qn_braket.proofs.Part.{contract_entry}
use Rattle.qn_braket.proofs.Chained.{distinct_goal, chain_perm, state_flat, operator_flat}

-- the labels of a list of ends
abbrev pub ends_labels : List End → List ℤ
ends_labels es = map (λ (e : End). e.label) es

-- where the renamed ends differ, the ends do

distinct-unmap : (f : ℤ → ℤ) (es : List End) → IsDistinct same_end (map (relabel f) es) → IsDistinct same_end es
distinct-unmap f [] d = tt
distinct-unmap f (e ∷ es) d = (go (is_in same_end e es) refl, distinct-unmap f es d.1)
  where
    go : (b : Bool) → is_in same_end e es ≡ b → b ≡ false
    go false h = refl
    go true h = sym (image h) ∙ d.0
      where
        image : is_in same_end e es ≡ true → is_in same_end (relabel f e) (map (relabel f) es) ≡ true
        image k =
            is_in-perm same_end (relabel f e) (perm-map (relabel f) (perm-without same_end end_test e es k))
            ∙ or_left (same_end (relabel f e) (relabel f e)) (is_in same_end (relabel f e) (map (relabel f) (without same_end e es))) (end_test.itself (relabel f e))

-- a chain under other names

module _ (f : ℤ → ℤ) (own own' : ℕ → List End) (link link' : ℕ → ℤ) (c : ℕ → Piece) (n : ℕ)
    (names_link : (k : ℕ) → f (link k) ≡ link' k) (names_own : (k : ℕ) → k < n → map (relabel f) (own k) ≡ own' k) where
  pub chain_relabel : (m j : ℕ) (left : List End) → j + m < n → map (relabel_node f) (chain own link c left j m) ≡ chain own' link' c (map (relabel f) left) j m
  chain_relabel zero j left b =
      ap (λ es. record { ends = es; entry = (c j).entry; odd = (c j).odd } ∷ []) (map-append (relabel f) left (own j) ∙ ap (λ es. map (relabel f) left ++ es) (names_own j (small j n b)))
    where
      small : (j n : ℕ) → j + 0 < n → j < n
      small j n b = omega (arith, b)
  chain_relabel (suc m) j left b =
      ap₂ (λ es ns. record { ends = es; entry = (c j).entry; odd = (c j).odd } ∷ ns)
      (map-append (relabel f) left (own j ++ record { label = link j; inward = (c j).right_in } ∷ [])
      ∙ ap (λ es. map (relabel f) left ++ es)
      (map-append (relabel f) (own j) (record { label = link j; inward = (c j).right_in } ∷ [])
      ∙ ap₂ (λ es l. es ++ record { label = l; inward = (c j).right_in } ∷ []) (names_own j (small j m n b)) (names_link j)))
      (chain_relabel m (suc j) (record { label = link j; inward = not (c j).right_in } ∷ []) (move j m n b)
      ∙ ap (λ l. chain own' link' c (record { label = l; inward = not (c j).right_in } ∷ []) (suc j) m) (names_link j))
    where
      small : (j m n : ℕ) → j + suc m < n → j < n
      small j m n b = omega (arith, b)

      move : (j m n : ℕ) → j + suc m < n → suc j + m < n
      move j m n b = omega (arith, b)

  pub links_relabel : (m j : ℕ) → map (relabel_bond f) (chain_links link c j m) ≡ chain_links link' c j m
  links_relabel zero j = refl
  links_relabel (suc m) j = ap₂ (λ l bs. record { label = l; dim = (c j).right_dim; twisted = false } ∷ bs) (names_link j) (links_relabel m (suc j))

sites_relabel : (f : ℤ → ℤ) (site site' : ℕ → ℤ) (dim : ℕ → ℕ) (n : ℕ) → ((k : ℕ) → k < n → f (site k) ≡ site' k) → (m j : ℕ) → j + m < suc n →
    map (relabel f) (outs (site_lines site dim j m)) ≡ outs (site_lines site' dim j m)
sites_relabel f site site' dim n h zero j b = refl
sites_relabel f site site' dim n h (suc m) j b =
    ap₂ (λ l es. record { label = l; inward = false } ∷ es) (h j (small j m n b)) (sites_relabel f site site' dim n h m (suc j) (move j m n b))
  where
    small : (j m n : ℕ) → j + suc m < suc n → j < n
    small j m n b = omega (arith, b)

    move : (j m n : ℕ) → j + suc m < suc n → suc j + m < suc n
    move j m n b = omega (arith, b)

conj_relabel : (f : ℤ → ℤ) (es : List End) → map (relabel f) (conj_ends es) ≡ conj_ends (map (relabel f) es)
conj_relabel f es = sym (reverse-map (relabel f) (map flip es)) ∙ ap reverse (turn es)
  where
    turn : (es : List End) → map (relabel f) (map flip es) ≡ map flip (map (relabel f) es)
    turn [] = refl
    turn (e ∷ es) = ap (λ xs. relabel f (flip e) ∷ xs) (turn es)

-- the value of a network under other names, where the renamed network's ends differ
renamed : (f : ℤ → ℤ) (par : ℤ → ℕ → Bool) (ns : List Node) (bs : List Bond) (os : List End) →
    Perm (word ns) (goal bs os) → IsDistinct same_end (word (map (relabel_node f) ns)) → (xs : List ℕ) →
    (contract par (map (relabel_node f) ns) (map (relabel_bond f) bs) (map (relabel f) os)).entry xs ≡ (contract (λ l. par (f l)) ns bs os).entry xs
renamed f par ns bs os m d xs =
    let apart : IsDistinct same_end (map (relabel f) (word ns)) = subst (IsDistinct same_end) (word-map f ns) d in
    Relabel.relabel_law f par ns bs os (record { distinct = distinct-unmap f (word ns) apart; complete = m }) apart xs

-- a network of a chain's word

chain_network : (ns : List Node) (bs : List Bond) (os : List End) → Perm (word ns) (goal bs os) → IsDistinct int_eq (labels bs ++ ends_labels os) → IsNetwork ns bs os
chain_network ns bs os m d = record { distinct = distinct-perm same_end end_test (perm-sym m) (distinct_goal bs os d); complete = m }

-- the lines of the sites are not twisted
pub sites_plain : (site : ℕ → ℤ) (dim : ℕ → ℕ) (m j : ℕ) → AreUntwisted (site_lines site dim j m)
sites_plain site dim zero j = tt
sites_plain site dim (suc m) j = (refl, sites_plain site dim m (suc j))

-- states

module _ (site link : ℕ → ℤ) (c : ℕ → Piece) (dim : ℕ → ℕ) (m : ℕ) where
  abbrev state_opens : List End
  state_opens = outs (site_lines site dim 0 (suc m))

  pub state_perm : Perm (word (state_chain site link c m)) (goal (chain_links link c 0 m) state_opens)
  state_perm =
      subst (λ es. Perm (word (state_chain site link c m)) (pairs_of (chain_links link c 0 m) ++ es)) (state_flat site dim (suc m) 0)
      (chain_perm (λ j. record { label = site j; inward = false } ∷ []) link c m 0 [])

  pub state_network : IsDistinct int_eq (labels (chain_links link c 0 m) ++ ends_labels state_opens) → IsNetwork (state_chain site link c m) (chain_links link c 0 m) state_opens
  state_network d = chain_network (state_chain site link c m) (chain_links link c 0 m) state_opens state_perm d

pub state_value : (par : ℤ → ℕ → Bool) (site link : ℕ → ℤ) (c : ℕ → Piece) (dim : ℕ → ℕ) (m : ℕ) →
    IsDistinct int_eq (labels (chain_links link c 0 m) ++ ends_labels (outs (site_lines site dim 0 (suc m)))) → (a : Assignment) →
    flat par (state_chain site link c m) (chain_links link c 0 m) (outs (site_lines site dim 0 (suc m))) a ≡
    piece_amplitude (λ l. par (state_names site link l)) dim c m (values (outs (site_lines site dim 0 (suc m))) a)
state_value par site link c dim m d a =
    sym (contract_entry par (state_chain site link c m) (chain_links link c 0 m) (outs (site_lines site dim 0 (suc m))) (state_network site link c dim m d) a)
    ∙ (λ i. (contract par (nodes_are i) (links_are i) (opens_are i)).entry (values (outs (site_lines site dim 0 (suc m))) a))
    ∙ renamed f par (state_chain own_upper own_link c m) (chain_links own_link c 0 m) (outs (site_lines own_upper dim 0 (suc m)))
    (state_perm own_upper own_link c dim m)
    (subst (λ ns. IsDistinct same_end (word ns)) nodes_are (state_network site link c dim m d).distinct)
    (values (outs (site_lines site dim 0 (suc m))) a)
  where
    f : ℤ → ℤ
    f = state_names site link

    last : (m : ℕ) → 0 + m < suc m
    last m = omega arith

    last_2 : (m : ℕ) → 0 + suc m < suc (suc m)
    last_2 m = omega arith

    nodes_are : state_chain site link c m ≡ map (relabel_node f) (state_chain own_upper own_link c m)
    nodes_are = sym (chain_relabel f (λ j. record { label = own_upper j; inward = false } ∷ []) (λ j. record { label = site j; inward = false } ∷ []) own_link link c (suc m)
        (λ k. refl) (λ k b. refl) m 0 [] (last m))

    links_are : chain_links link c 0 m ≡ map (relabel_bond f) (chain_links own_link c 0 m)
    links_are = sym (links_relabel f (λ j. record { label = own_upper j; inward = false } ∷ []) (λ j. record { label = site j; inward = false } ∷ []) own_link link c (suc m)
        (λ k. refl) (λ k b. refl) m 0)

    opens_are : outs (site_lines site dim 0 (suc m)) ≡ map (relabel f) (outs (site_lines own_upper dim 0 (suc m)))
    opens_are = sym (sites_relabel f own_upper site dim (suc m) (λ k b. refl) (suc m) 0 (last_2 m))

-- operators

module _ (m : ℕ) (upper lower link : ℕ → ℤ) where
  pub name_upper : (k : ℕ) → k < suc m → operator_names m upper lower link (own_upper k) ≡ upper k
  name_upper k b = ap (λ q. cond q (upper k) (cond (nat_lt k (2 * m + 2)) (lower (2 * m + 1 - k)) (negsuc k))) (first_half k m b)
    where
      first_half : (k m : ℕ) → k < suc m → nat_lt k (m + 1) ≡ true
      first_half k m b = grind (arith, nat_tests)

  pub name_lower : (k : ℕ) → k < suc m → operator_names m upper lower link (own_lower m k) ≡ lower k
  name_lower k b =
      ap₂ (λ p q. cond p (upper (2 * m + 1 - k)) (cond q (lower (2 * m + 1 - (2 * m + 1 - k))) (negsuc (2 * m + 1 - k)))) (second_half_1 k m b) (second_half_2 k m b)
      ∙ ap lower (back_again k m b)
    where
      second_half_1 : (k m : ℕ) → k < suc m → nat_lt (2 * m + 1 - k) (m + 1) ≡ false
      second_half_1 k m b = grind (arith, nat_tests)

      second_half_2 : (k m : ℕ) → k < suc m → nat_lt (2 * m + 1 - k) (2 * m + 2) ≡ true
      second_half_2 k m b = grind (arith, nat_tests)

      back_again : (k m : ℕ) → k < suc m → 2 * m + 1 - (2 * m + 1 - k) ≡ k
      back_again k m b = omega (arith, b)

module _ (upper lower link : ℕ → ℤ) (c : ℕ → Piece) (dim : ℕ → ℕ) (m : ℕ) where
  abbrev pub operator_opens : List End
  operator_opens = outs (site_lines upper dim 0 (suc m)) ++ ins_back (site_lines lower dim 0 (suc m))

  pub operator_perm : Perm (word (operator_chain upper lower link c m)) (goal (chain_links link c 0 m) operator_opens)
  operator_perm =
      then_by (chain_perm (λ j. record { label = upper j; inward = false } ∷ record { label = lower j; inward = true } ∷ []) link c m 0 [])
      (perm_under (pairs_of (chain_links link c 0 m)) (operator_flat upper lower dim (suc m) 0))

  pub operator_network : IsDistinct int_eq (labels (chain_links link c 0 m) ++ ends_labels operator_opens) → IsNetwork (operator_chain upper lower link c m) (chain_links link c 0 m) operator_opens
  operator_network d = chain_network (operator_chain upper lower link c m) (chain_links link c 0 m) operator_opens operator_perm d

pub operator_value : (par : ℤ → ℕ → Bool) (upper lower link : ℕ → ℤ) (c : ℕ → Piece) (dim : ℕ → ℕ) (m : ℕ) →
    IsDistinct int_eq (labels (chain_links link c 0 m) ++ ends_labels (operator_opens upper lower link c dim m)) → (a : Assignment) →
    flat par (operator_chain upper lower link c m) (chain_links link c 0 m) (operator_opens upper lower link c dim m) a ≡
    piece_element (λ l. par (operator_names m upper lower link l)) dim c m (values (outs (site_lines upper dim 0 (suc m))) a) (values (outs (site_lines lower dim 0 (suc m))) (across a))
operator_value par upper lower link c dim m d a =
    sym (contract_entry par (operator_chain upper lower link c m) (chain_links link c 0 m) os (operator_network upper lower link c dim m d) a)
    ∙ ap (contract par (operator_chain upper lower link c m) (chain_links link c 0 m) os).entry values_are
    ∙ (λ i. (contract par (nodes_are i) (links_are i) (opens_are i)).entry xs)
    ∙ renamed f par (operator_chain own_upper (own_lower m) own_link c m) (chain_links own_link c 0 m) own_os
    (operator_perm own_upper (own_lower m) own_link c dim m)
    (subst (λ ns. IsDistinct same_end (word ns)) nodes_are (operator_network upper lower link c dim m d).distinct)
    xs
  where
    f : ℤ → ℤ
    f = operator_names m upper lower link

    os : List End
    os = operator_opens upper lower link c dim m

    own_os : List End
    own_os = operator_opens own_upper (own_lower m) own_link c dim m

    xs : List ℕ
    xs = values (outs (site_lines upper dim 0 (suc m))) a ++ reverse (values (outs (site_lines lower dim 0 (suc m))) (across a))

    values_are : values os a ≡ xs
    values_are =
        map-append a (outs (site_lines upper dim 0 (suc m))) (ins_back (site_lines lower dim 0 (suc m)))
        ∙ ap (λ vs. values (outs (site_lines upper dim 0 (suc m))) a ++ vs) (conj_values (outs (site_lines lower dim 0 (suc m))) a)

    last : (m : ℕ) → 0 + m < suc m
    last m = omega arith

    last_2 : (m : ℕ) → 0 + suc m < suc (suc m)
    last_2 m = omega arith

    legs_are : (k : ℕ) → k < suc m →
        map (relabel f) (record { label = own_upper k; inward = false } ∷ record { label = own_lower m k; inward = true } ∷ []) ≡
        record { label = upper k; inward = false } ∷ record { label = lower k; inward = true } ∷ []
    legs_are k b = ap₂ (λ u l. record { label = u; inward = false } ∷ record { label = l; inward = true } ∷ []) (name_upper m upper lower link k b) (name_lower m upper lower link k b)

    nodes_are : operator_chain upper lower link c m ≡ map (relabel_node f) (operator_chain own_upper (own_lower m) own_link c m)
    nodes_are = sym (chain_relabel f (λ j. record { label = own_upper j; inward = false } ∷ record { label = own_lower m j; inward = true } ∷ [])
        (λ j. record { label = upper j; inward = false } ∷ record { label = lower j; inward = true } ∷ []) own_link link c (suc m)
        (λ k. refl) legs_are m 0 [] (last m))

    links_are : chain_links link c 0 m ≡ map (relabel_bond f) (chain_links own_link c 0 m)
    links_are = sym (links_relabel f (λ j. record { label = own_upper j; inward = false } ∷ record { label = own_lower m j; inward = true } ∷ [])
        (λ j. record { label = upper j; inward = false } ∷ record { label = lower j; inward = true } ∷ []) own_link link c (suc m)
        (λ k. refl) legs_are m 0)

    opens_are : os ≡ map (relabel f) own_os
    opens_are =
        sym (map-append (relabel f) (outs (site_lines own_upper dim 0 (suc m))) (ins_back (site_lines (own_lower m) dim 0 (suc m)))
        ∙ ap₂ (λ u v. u ++ v) (sites_relabel f own_upper upper dim (suc m) (name_upper m upper lower link) (suc m) 0 (last_2 m))
        (conj_relabel f (outs (site_lines (own_lower m) dim 0 (suc m))) ∙ ap conj_ends (sites_relabel f (own_lower m) lower dim (suc m) (name_lower m upper lower link) (suc m) 0 (last_2 m))))
