-- What the words of the command line ask for. This project's own.
use Rattle.std.specs.Prelude.{ℕ, ◌≤◌, ◌+◌, Bool, ◌&&◌, List, [], ◌∷◌, Option, Some, None, Result, Ok, Err, bytes_eq, codes, nat_le, if◌then◌else◌}
use Rattle.std.specs.Fmt.{decimal}
use Rattle.std.specs.Str.Parse.{digits_value}
use Rattle.qn_words.specs.declared.words.Job.{Job}
use Rattle.qn_words.specs.declared.words.Job.TheVariants.{Contract, Plan, Mpo, Overlap, Expect, Gen}

-- whether the word is this text
abbrev pub is_word : List ℕ → List ℕ → Bool
is_word w text = bytes_eq w text

-- the number from low to high whose decimal the word is
abbrev pub number_in : ℕ → ℕ → List ℕ → Option ℕ
number_in low high w =
    let n : ℕ = digits_value 10 w in
    if bytes_eq w (decimal n) && (nat_le low n && nat_le n high) then Some n else None

-- nothing follows from the place p on
abbrev pub end_at : {A : Type 0} → ℕ → A → List (List ℕ) → Result A ℕ
end_at p x [] = Ok x
end_at p x (w ∷ ws) = Err p

abbrev pub last_at : ℕ → Option ℕ → List (List ℕ) → Result ℕ ℕ
last_at p None ws = Err p
last_at p (Some n) ws = end_at (p + 1) n ws

-- the number of workers at the place p, behind which nothing follows
abbrev pub count_at : ℕ → List (List ℕ) → Result ℕ ℕ
count_at p [] = Err p
count_at p (w ∷ ws) = last_at p (number_in 1 64 w) ws

-- the number of workers that the words from the place p on ask for: one where there are none
abbrev pub workers_at : ℕ → List (List ℕ) → Result ℕ ℕ
workers_at p [] = Ok 1
workers_at p (w ∷ ws) = if is_word w (codes "--workers") then count_at (p + 1) ws else Err p

abbrev pub job_by : (ℕ → Job) → Result ℕ ℕ → Result Job ℕ
job_by job (Ok n) = Ok (job n)
job_by job (Err p) = Err p

abbrev pub seed_at : Option ℕ → List (List ℕ) → Result Job ℕ
seed_at None ws = Err 2
seed_at (Some seed) ws = job_by (Gen seed) (workers_at 3 ws)

abbrev pub gen_of : List (List ℕ) → Result Job ℕ
gen_of [] = Err 2
gen_of (w ∷ ws) = seed_at (number_in 0 4294967295 w) ws

abbrev pub command_of : List ℕ → List (List ℕ) → Result Job ℕ
command_of w ws =
    if is_word w (codes "contract") then job_by Contract (workers_at 2 ws)
    else if is_word w (codes "plan") then end_at 2 Plan ws
    else if is_word w (codes "mpo") then end_at 2 Mpo ws
    else if is_word w (codes "overlap") then job_by Overlap (workers_at 2 ws)
    else if is_word w (codes "expect") then job_by Expect (workers_at 2 ws)
    else if is_word w (codes "gen") then gen_of ws
    else Err 1

-- the job of the words, or the place, from 1, of the first word that does not fit, or one past the end where a word is missing
abbrev pub job_of : List (List ℕ) → Result Job ℕ
job_of [] = Err 1
job_of (w ∷ ws) = command_of w ws

-- 1 to 64 workers, where the job takes workers
abbrev pub HasWorkers : Job → Type 0
HasWorkers (Contract workers) = (1 ≤ workers) × (workers ≤ 64)
HasWorkers Plan = Unit {0}
HasWorkers Mpo = Unit {0}
HasWorkers (Overlap workers) = (1 ≤ workers) × (workers ≤ 64)
HasWorkers (Expect workers) = (1 ≤ workers) × (workers ≤ 64)
HasWorkers (Gen seed workers) = (1 ≤ workers) × (workers ≤ 64)
