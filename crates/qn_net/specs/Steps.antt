-- Steps of a contraction: two groups are brought together over lines that they share, or a group is summed over lines of its own.
-- NCON, arXiv:1402.0939.
use Rattle.std.specs.Prelude.{◌≡◌, ℕ, ℤ, Bool, true, false, ◌&&◌, ◌||◌, List, [], ◌∷◌, ◌++◌, map, if◌then◌else◌}
use Rattle.std.specs.List.{list_all}
use Rattle.std.specs.Ordering.{int_eq}
use Rattle.qn_sign.specs.Sign.{is_in, Perm}
use Rattle.qn_value.specs.Networks.{Bond, Parities, labels, odd_flux, AreWithin}
use Rattle.qn_value.specs.Twists.{HasOneEnd}
use Rattle.qn_net.specs.Groups.{Role, TensorGroup, nodes, joined, closed}
use Rattle.qn_net.specs.Groups.Role.{tensor, fuse_table, split_table}

-- a step: the groups that it takes and those that stand before, between and behind them, the lines that it sums and those that are left
pub data Step : Type 0 where
  pair : (before : List TensorGroup) (first : TensorGroup) (between : List TensorGroup) (second : TensorGroup) (behind : List TensorGroup) (bonds left : List Bond) → Step
  trace : (before : List TensorGroup) (group : TensorGroup) (behind : List TensorGroup) (bonds left : List Bond) → Step

-- the groups in their places, and the lines that are not summed yet
pub record State : Type 0 where
  pub groups : List TensorGroup
  pub left : List Bond

-- the group that the step makes
abbrev pub result : Parities → Step → TensorGroup
result par (pair before g between h behind bonds left) = joined par (odd_flux (nodes between)) g h bonds
result par (trace before g behind bonds left) = closed par g bonds

-- the state after the step: the result stands in the place of the earlier group
abbrev pub after : Parities → Step → State
after par (pair before g between h behind bonds left) =
    record { groups = before ++ (joined par (odd_flux (nodes between)) g h bonds ∷ (between ++ behind)); left = left }
after par (trace before g behind bonds left) = record { groups = before ++ (closed par g bonds ∷ behind); left = left }

-- the state after the steps
abbrev pub carry : Parities → List Step → State → State
carry par [] s = s
carry par (t ∷ ts) s = carry par ts (after par t)

-- the step takes its groups from this state, and sums lines that have their two ends on them: one on each of two groups
abbrev pub IsStepAt : State → Step → Type 0
IsStepAt s (pair before g between h behind bonds left) =
    (s.groups ≡ before ++ (g ∷ (between ++ (h ∷ behind)))) × Perm s.left (bonds ++ left)
    × AreWithin bonds (g.node ∷ h.node ∷ []) × HasOneEnd (λ e. true) g.node bonds × HasOneEnd (λ e. true) h.node bonds
IsStepAt s (trace before g behind bonds left) =
    (s.groups ≡ before ++ (g ∷ behind)) × Perm s.left (bonds ++ left) × AreWithin bonds (g.node ∷ [])

-- how a step is written down

pub data Kind : Type 0 where
  pair_step : Kind
  trace_step : Kind
  fuse_step : Kind

-- a step by its kind, the numbers of the groups that it takes, and its labels ascending; where there is no second group its number is 0
pub record WrittenStep : Type 0 where
  pub kind : Kind
  pub first : ℕ
  pub second : ℕ
  pub labels : List ℤ

abbrev pub same_labels : List ℤ → List ℤ → Bool
same_labels ks ls = list_all (λ k. is_in int_eq k ls) ks && list_all (λ l. is_in int_eq l ks) ls

abbrev pub all_but_first : List ℤ → List ℤ
all_but_first [] = []
all_but_first (l ∷ ls) = ls

abbrev pub last_one : List ℤ → List ℤ
last_one [] = []
last_one (l ∷ []) = l ∷ []
last_one (l ∷ k ∷ ls) = last_one (k ∷ ls)

-- whether a step that sums these labels is one that fuses or splits, for a member with this role and these labels on its legs:
-- a fuse table is summed over all its flipped legs, which are all but the first, and a split table over its flipped fused leg, which is the last
abbrev pub meets_condition : Role → List ℤ → List ℤ → Bool
meets_condition tensor legs summed = false
meets_condition fuse_table legs summed = same_labels summed (all_but_first legs)
meets_condition split_table legs summed = same_labels summed (last_one legs)

-- whether the group is a combiner's table that no step has touched, and is summed over just the legs that it combines
abbrev pub fuses : TensorGroup → List Bond → Bool
fuses g bonds = meets_condition g.role (map (λ e. e.label) g.node.ends) (labels bonds)

abbrev pub written : Step → WrittenStep
written (pair before g between h behind bonds left) =
    record { kind = if fuses g bonds || fuses h bonds then fuse_step else pair_step; first = g.number; second = h.number; labels = labels bonds }
written (trace before g behind bonds left) = record { kind = trace_step; first = g.number; second = 0; labels = labels bonds }
