-- The log: what an append makes of it, and what appends leave that were cut.
use Rattle.std.proofs.Common.{ℕ, ◌≡◌, ◌⊎◌, inl, inr, List, [], ◌∷◌, ◌++◌, refl, sym, ap, subst, ◌∙◌}
use Rattle.std.specs.Prelude.{codes}
use Rattle.lfs_model.specs.format.Disk.{Disk}
use Rattle.lfs_model.specs.tree.Tree.{Tree}
use Rattle.lfs_model.specs.session.Operations.{FlagsOfOpen}
use Rattle.lfs_model.specs.session.Session.{Session}
use Rattle.lfs_model.specs.session.State.{Healthy, mounted_session}
use Rattle.lfs_model.specs.session.Run.{SystemState}
use Rattle.lfs_fs.specs.Starts.{IsReachableByCalls}
use Rattle.lfs_model.specs.crash.LifeTrees.{HasMountableTree}
use Rattle.lfs_model.proofs.TreesLeft.{start_has}
use Rattle.saved_files.specs.Working.{LossLeavesTreeWith, KeepsWorkingBetween}
use Rattle.saved_files.proofs.Parts.{finds_weaker, survives_weaker, then_survives, works_live}
use Rattle.saved_files.specs.Writing.{appending_flags, bytes_after_write, IsBeforeOrAfterWrite, WriteSurvivesPowerLoss, WritesFile}
use Rattle.saved_files.specs.Log.{log_path, log_in, IsCrashSafeAppend, IsCompletedAppend, AreSequentialAppends, HasPrefixOfEntries, AreInterruptedAppends, AreInterruptedSessions, HasPrefixPerSession}
use Rattle.saved_files.proofs.Written.{appended_has, file_has}

-- ---- an append

module _ (a b : SystemState) (flags : FlagsOfOpen) (is : flags ≡ appending_flags) (bytes : List ℕ) (survives : WriteSurvivesPowerLoss (codes "/log") flags bytes a b) (lived : IsReachableByCalls a b) where
  longer : (old : List ℕ) → bytes_after_write log_path flags old bytes ≡ old ++ bytes
  longer old = appended_has log_path flags old bytes (ap (λ (f : FlagsOfOpen). f.truncate) is) (ap (λ (f : FlagsOfOpen). f.append) is)

  either : (old tree : Tree) → IsBeforeOrAfterWrite log_path flags bytes old tree → (log_in tree ≡ log_in old) ⊎ (log_in tree ≡ log_in old ++ bytes)
  either old tree (inl h) = inl h.has
  either old tree (inr h) = inr (h.has ∙ longer (log_in old))

  pub appends : IsCrashSafeAppend a bytes b
  appends = record {
    survives = λ s healthy. survives_weaker (IsBeforeOrAfterWrite log_path flags bytes s.tree) (λ tree. (log_in tree ≡ log_in s.tree) ⊎ (log_in tree ≡ log_in s.tree ++ bytes)) a b (either s.tree) (survives s healthy);
    lived = lived;
  }

  pub appended : KeepsWorkingBetween a b → WritesFile (codes "/log") flags bytes a b → IsCompletedAppend a bytes b
  appended works writes = record {
    append = appends;
    works = works;
    has = λ s healthy. let k = writes s healthy in (k.0, (k.1.0, file_has (k.0.tree log_path) _ k.1.1.file ∙ longer (log_in s.tree)));
  }

-- ---- one append after another

first_of : (old : List ℕ) (more : List (List ℕ)) → HasPrefixOfEntries old more old
first_of old [] = refl
first_of old (bytes ∷ more) = inl refl

appends_live : (a : SystemState) (entries : List (List ℕ)) (b : SystemState) → AreSequentialAppends a entries b → IsReachableByCalls a b
appends_live a [] b none = absurd none
appends_live a (bytes ∷ []) b one = one.lived
appends_live a (bytes ∷ next ∷ more) b (middle, (done, rest)) = works_live done.works (appends_live middle (next ∷ more) b rest)

abbrev Begins : List ℕ → List (List ℕ) → Tree → Type 0
Begins old entries tree = HasPrefixOfEntries old entries (log_in tree)

first_either : (old bytes : List ℕ) (more : List (List ℕ)) (tree : Tree) → (log_in tree ≡ old) ⊎ (log_in tree ≡ old ++ bytes) → Begins old (bytes ∷ more) tree
first_either old bytes more tree (inl e) = inl e
first_either old bytes more tree (inr e) = inr (subst (λ log. HasPrefixOfEntries (old ++ bytes) more log) (sym e) (first_of (old ++ bytes) more))

pub appends_survive : (a : SystemState) (entries : List (List ℕ)) (b : SystemState) (s : Session) → AreSequentialAppends a entries b → a.state ≡ Healthy s → LossLeavesTreeWith (Begins (log_in s.tree) entries) a b
appends_survive a [] b s none healthy = absurd none
appends_survive a (bytes ∷ []) b s one healthy =
    survives_weaker (λ tree. (log_in tree ≡ log_in s.tree) ⊎ (log_in tree ≡ log_in s.tree ++ bytes)) (Begins (log_in s.tree) (bytes ∷ [])) a b (first_either (log_in s.tree) bytes []) (one.survives s healthy)
appends_survive a (bytes ∷ next ∷ more) b s (middle, (done, rest)) healthy =
    let k = done.has s healthy in
    then_survives (Begins (log_in s.tree) (bytes ∷ next ∷ more)) a middle b done.works (appends_live middle (next ∷ more) b rest)
    (survives_weaker (λ tree. (log_in tree ≡ log_in s.tree) ⊎ (log_in tree ≡ log_in s.tree ++ bytes)) (Begins (log_in s.tree) (bytes ∷ next ∷ more)) a middle (first_either (log_in s.tree) bytes (next ∷ more)) (done.append.survives s healthy))
    (λ t after. survives_weaker (Begins (log_in k.0.tree) (next ∷ more)) (Begins (log_in s.tree) (bytes ∷ next ∷ more)) middle b (λ tree h. inr (subst (λ old. HasPrefixOfEntries old (next ∷ more) (log_in tree)) k.1.1 h))
    (appends_survive middle (next ∷ more) b k.0 rest k.1.0))

-- ---- one session after another

abbrev pub StartsWithLog : (List ℕ → Type 0) → Disk → Type 0
StartsWithLog Q disk = HasMountableTree (λ tree. Q (log_in tree)) disk

-- a log with Q was there before
abbrev HasMore : (List ℕ → Type 0) → List (List ℕ) → List ℕ → Type 0
HasMore Q entries log = (old : List ℕ) × (Q old × HasPrefixOfEntries old entries log)

after_one : (Q : List ℕ → Type 0) (disk next : Disk) (entries : List (List ℕ)) → StartsWithLog Q disk → AreInterruptedAppends disk entries next → StartsWithLog (HasMore Q entries) next
after_one Q disk next entries h cut =
    let may = h.may cut.begin cut.same cut.mounts in
    finds_weaker (Begins (log_in cut.mounts.tree) entries) (λ tree. HasMore Q entries (log_in tree)) next (λ tree k. (log_in cut.mounts.tree, (start_has (λ tree. Q (log_in tree)) disk h cut.begin cut.same cut.mounts, k)))
    (appends_survive cut.begin entries cut.to (mounted_session cut.mounts.tree) cut.appends cut.mounts.healthy next (record { agrees = may.agrees; profile = may.profile; cleanly = cut.cleanly }) cut.stop)

-- a log with Q was there before all of them
abbrev HasAll : (List ℕ → Type 0) → List (List (List ℕ)) → List ℕ → Type 0
HasAll Q sessions log = (old : List ℕ) × (Q old × HasPrefixPerSession old sessions log)

pub after_all : (Q : List ℕ → Type 0) (disk left : Disk) (sessions : List (List (List ℕ))) → StartsWithLog Q disk → AreInterruptedSessions disk sessions left → StartsWithLog (HasAll Q sessions) left
after_all Q disk left [] h same = finds_weaker (λ tree. Q (log_in tree)) (λ tree. HasAll Q [] (log_in tree)) left (λ tree k. (log_in tree, (k, refl))) (subst (StartsWithLog Q) (sym same) h)
after_all Q disk left (entries ∷ sessions) h (next, (cut, more)) =
    finds_weaker (λ tree. HasAll (HasMore Q entries) sessions (log_in tree)) (λ tree. HasAll Q (entries ∷ sessions) (log_in tree)) left (λ tree k. (k.1.0.0, (k.1.0.1.0, (k.0, (k.1.0.1.1, k.1.1)))))
    (after_all (HasMore Q entries) next left sessions (after_one Q disk next entries h cut) more)

pub log_survives : (disk left : Disk) (old : List ℕ) (sessions : List (List (List ℕ))) → HasMountableTree (λ tree. log_in tree ≡ old) disk → AreInterruptedSessions disk sessions left → HasMountableTree (λ tree. HasPrefixPerSession old sessions (log_in tree)) left
log_survives disk left old sessions h cuts =
    finds_weaker (λ tree. HasAll (λ log. log ≡ old) sessions (log_in tree)) (λ tree. HasPrefixPerSession old sessions (log_in tree)) left
    (λ tree k. subst (λ log. HasPrefixPerSession log sessions (log_in tree)) k.1.0 k.1.1) (after_all (λ log. log ≡ old) disk left sessions h cuts)
