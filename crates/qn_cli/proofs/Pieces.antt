-- Pieces that are written one after another.
use Rattle.std.proofs.Common.{◌≡◌, ◌⊎◌, inl, inr, ℕ, suc, ◌+◌, ◌<◌, ◌≤◌, List, [], ◌++◌, length, take, drop, get_or, Bor, add-one, drop-cons, Bool, true, Some, None, ap, ◌∙◌, sym, arith, append_assoc}
use Rattle.std.proofs.Math.Seq.{take-append-add}
use Rattle.std.proofs.lemmas.List.{take-append-le, take_all}
use Rattle.std.proofs.lemmas.Bool.{cases_lt}
use Rattle.std.specs.Prelude.{Option, Result, Ok, Err, IfErr, OnErr}
use Rattle.std.specs.Io.KnownBytes.{Appends}
use Rattle.qn_outside.specs.Faults.{Rose}
use Rattle.qn_cli.specs.Lines.{AppendsFront, joined, numbers_after}
use Rattle.serde_json.specs.Written.{comma_if}
use Rattle.std.specs.Prelude.{decimal}
use Rattle.qn_outside.specs.declared.write_whole.WriteFault.{WriteFault}

pub appends_both : (a b c : Option (List ℕ)) (xs ys : List ℕ) → Appends a b xs → Appends b c ys → Appends a c (xs ++ ys)
appends_both None b c xs ys p q = tt
appends_both (Some x) None c xs ys p q = absurd p
appends_both (Some x) (Some y) None xs ys p q = absurd q
appends_both (Some x) (Some y) (Some z) xs ys p q = q ∙ ap (λ l. l ++ ys) p ∙ append_assoc x xs ys

-- the whole of the first and a front of the second: a front of both
pub front_later : (a b c : Option (List ℕ)) (xs ys : List ℕ) → Appends a b xs → AppendsFront b c ys → AppendsFront a c (xs ++ ys)
front_later a b c xs ys p q = (length xs + q.0, rw (take-append-add xs ys q.0) (appends_both a b c xs (take q.0 ys) p q.1))

-- a front of the first: a front of both
pub front_first : (a b : Option (List ℕ)) (xs ys : List ℕ) → AppendsFront a b xs → AppendsFront a b (xs ++ ys)
front_first a b xs ys q = either (cases_lt q.0 (length xs))
  where
    either : ((q.0 < length xs) ⊎ (length xs ≤ q.0)) → AppendsFront a b (xs ++ ys)
    either (inl short) = let within : q.0 ≤ length xs = omega arith in (q.0, rw (take-append-le q.0 xs ys within) q.1)
    either (inr long) =
        let all = take_all q.0 xs long in
        let same : length xs ≤ length xs = omega arith in
        (length xs, rw (take-append-le (length xs) xs ys same, take_all (length xs) xs same) (rw all at q.1))

-- the count rose from an earlier value
pub rose_earlier : (a b c : ℕ) → a ≤ b → Rose b c → Rose a c
rose_earlier a b c h r = grind arith

-- what a proof takes for a piece past the end
abbrev pub no_piece : Bor (List ℕ)
no_piece = record { ref_ptr = (0, 0); now = [] }

pub next_piece : (ps : List (Bor (List ℕ))) (i : ℕ) → i < length ps → joined (drop i ps) ≡ (get_or ps i no_piece).now ++ joined (drop (i + 1) ps)
next_piece ps i within = rw (add-one i) (ap joined (drop-cons ps i no_piece within))

pub next_number : (later : Bool) (ns : List ℕ) (i : ℕ) → i < length ns → numbers_after later (drop i ns) ≡ (comma_if later ++ decimal (get_or ns i 0)) ++ numbers_after true (drop (i + 1) ns)
next_number later ns i within = rw (add-one i) (ap (numbers_after later) (drop-cons ns i 0 within) ∙ sym (append_assoc (comma_if later) (decimal (get_or ns i 0)) (numbers_after true (drop (suc i) ns))))

pub on_err_with : {T E : Type 0} (r : Result T E) (P Q : Type 0) → (P → Q) → OnErr r P → OnErr r Q
on_err_with (Ok x) P Q f p = tt
on_err_with (Err e) P Q f p = f p

-- the first bytes that a fault names
pub some_front : {T : Type 0} (r : Result T WriteFault) (a b : Option (List ℕ)) (line : List ℕ) → IfErr r (λ e. Appends a b (take e.written line)) → OnErr r (AppendsFront a b line)
some_front (Ok x) a b line h = tt
some_front (Err e) a b line h = (e.written, h)
