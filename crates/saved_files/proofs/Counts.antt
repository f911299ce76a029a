-- The counter: what is read of it, and what a raise makes of it.
use Rattle.std.proofs.Common.{ℕ, ◌≡◌, ◌⊎◌, inl, inr, ◌<◌, ◌^◌, true, ◌+◌, List, [], ◌∷◌, length, take, drop, Option, Some, None, is_none, Result, Ok, refl, sym, ap, ◌∙◌}
use Rattle.std.specs.Prelude.{codes}
use Rattle.std.specs.Int.{w32, to_le_bytes}
use Rattle.std.proofs.lemmas.Nat.{from_le_bytes-to_le_bytes_4}
use Rattle.lfs_model.specs.tree.Tree.{Tree}
use Rattle.lfs_model.specs.session.TreeEdits.{file_bytes}
use Rattle.lfs_model.specs.session.Operations.{FlagsOfOpen}
use Rattle.lfs_model.specs.session.Session.{Session}
use Rattle.lfs_model.specs.session.State.{Healthy}
use Rattle.lfs_model.specs.session.Run.{SystemState}
use Rattle.lfs_fs.specs.Starts.{IsReachableByCalls}
use Rattle.saved_files.specs.Working.{KeepsWorkingBetween}
use Rattle.saved_files.proofs.Parts.{survives_weaker, then_survives}
use Rattle.saved_files.specs.Writing.{HasBytesAt, ReadsFile, ReadSurvivesPowerLoss, bytes_after_write, saving_flags, IsBeforeOrAfterWrite, WriteSurvivesPowerLoss, WritesFile}
use Rattle.saved_files.specs.Counter.{counter_path, counter_in, number_of, CounterReadSurvivesLoss, IncrementSurvivesPowerLoss, SetCounterSurvivesLoss, ReadsCounterAs, IncrementsCounterTo, SetsCounterTo}
use Rattle.saved_files.proofs.Written.{emptied_has, file_has}

-- ---- numbers

same_number : (n : ℕ) → n < 2 ^ 32 → number_of (to_le_bytes w32 n) ≡ n
same_number n small = from_le_bytes-to_le_bytes_4 n small

-- ---- a look at the counter

module _ (a b : SystemState) where
  pub look_counts : ReadSurvivesPowerLoss (codes "/counter") a b → CounterReadSurvivesLoss a b
  look_counts survives s healthy =
      survives_weaker (HasBytesAt counter_path (file_bytes (s.tree counter_path)) s.tree) (λ tree. counter_in tree ≡ counter_in s.tree) a b (λ tree h. ap number_of h.has) (survives s healthy)

  pub counts : (bytes : List ℕ) (number : ℕ) → number ≡ number_of bytes → ReadsFile (codes "/counter") bytes a b → ReadsCounterAs number a b
  counts bytes number is reads s healthy =
      let k = reads s healthy in
      (is ∙ sym (ap number_of (file_has (s.tree counter_path) bytes k.0)), (k.1.0, (k.1.1.0, ap number_of k.1.1.1.has ∙ sym is)))

-- ---- a set

module _ (b c : SystemState) (number : ℕ) (flags : FlagsOfOpen) (bytes : List ℕ) (is : flags ≡ saving_flags) (next : bytes ≡ to_le_bytes w32 number) (small : number < 2 ^ 32) where
  has_number : (old : List ℕ) → number_of (bytes_after_write counter_path flags old bytes) ≡ number
  has_number old = ap number_of (emptied_has counter_path flags old bytes (ap (λ (f : FlagsOfOpen). f.truncate) is) (ap (λ (f : FlagsOfOpen). f.append) is) ∙ next) ∙ same_number number small

  set_either : (old tree : Tree) → IsBeforeOrAfterWrite counter_path flags bytes old tree → (counter_in tree ≡ counter_in old) ⊎ (counter_in tree ≡ number)
  set_either old tree (inl h) = inl (ap number_of h.has)
  set_either old tree (inr h) = inr (ap number_of h.has ∙ has_number (file_bytes (old counter_path)))

  pub set_survives : WriteSurvivesPowerLoss (codes "/counter") flags bytes b c → SetCounterSurvivesLoss b number c
  set_survives survives s healthy =
      survives_weaker (IsBeforeOrAfterWrite counter_path flags bytes s.tree) (λ tree. (counter_in tree ≡ counter_in s.tree) ⊎ (counter_in tree ≡ number)) b c (set_either s.tree) (survives s healthy)

  pub sets : WritesFile (codes "/counter") flags bytes b c → SetsCounterTo number b c
  sets writes s healthy =
      let w = writes s healthy in
      (w.0, (w.1.0, ap number_of (file_has (w.0.tree counter_path) (bytes_after_write counter_path flags (file_bytes (s.tree counter_path)) bytes) w.1.1.file) ∙ has_number (file_bytes (s.tree counter_path))))

-- ---- a raise

pub count_raises : (a b : SystemState) → CounterReadSurvivesLoss a b → IncrementSurvivesPowerLoss a b
count_raises a b before s healthy = survives_weaker (λ tree. counter_in tree ≡ counter_in s.tree) (λ tree. (counter_in tree ≡ counter_in s.tree) ⊎ (counter_in tree ≡ counter_in s.tree + 1)) a b (λ tree e. inl e) (before s healthy)

module _ (a b c : SystemState) (number : ℕ) (flags : FlagsOfOpen) (bytes : List ℕ) (is : flags ≡ saving_flags) (next : bytes ≡ to_le_bytes w32 (number + 1)) (small : number + 1 < 2 ^ 32) (counted : ReadsCounterAs number a b) where
  pub raise_survives : CounterReadSurvivesLoss a b → KeepsWorkingBetween a b → WriteSurvivesPowerLoss (codes "/counter") flags bytes b c → IsReachableByCalls b c → IncrementSurvivesPowerLoss a c
  raise_survives before works survives lived s healthy =
      let k = counted s healthy in
      let Raised : Tree → Type 0 = λ tree. (counter_in tree ≡ counter_in s.tree) ⊎ (counter_in tree ≡ counter_in s.tree + 1) in
      then_survives Raised a b c works lived (count_raises a b before s healthy)
      (λ t after. survives_weaker (λ tree. (counter_in tree ≡ counter_in k.1.0.tree) ⊎ (counter_in tree ≡ number + 1)) Raised b c (λ tree. either (counter_in tree) (counter_in k.1.0.tree) (counter_in s.tree) (k.1.1.1 ∙ k.0) k.0)
      (set_survives b c (number + 1) flags bytes is next small survives k.1.0 k.1.1.0))
    where
      either : (now middle first : ℕ) → middle ≡ first → number ≡ first → (now ≡ middle) ⊎ (now ≡ number + 1) → (now ≡ first) ⊎ (now ≡ first + 1)
      either now middle first e f (inl h) = inl (h ∙ e)
      either now middle first e f (inr h) = inr (h ∙ ap (λ n. n + 1) f)

  pub raised : WritesFile (codes "/counter") flags bytes b c → IncrementsCounterTo (number + 1) a c
  raised writes s healthy =
      let k = counted s healthy in
      (ap (λ n. n + 1) k.0, sets b c (number + 1) flags bytes is next small writes k.1.0 k.1.1.0)
