-- Calls of a tree that only read.
use Rattle.std.proofs.Common.{ℕ, ◌≡◌, ◌∙◌, ◌||◌, Bool, false, List, Result, Ok, Err, refl, sym, ap, subst, ap₂, true}
use Rattle.std.specs.Prelude.{IfErr, OnErr, OnOk, is_err}
use Rattle.lfs_device.specs.declared.error.Error.{Error}
use Rattle.lfs_device.specs.declared.error.Error.TheVariants.{Io}
use Rattle.lfs_tree.proofs.Common.{BlockStates, CachedBlocks, Disk, CallEvent, Pair, count_before_root, ThreadView, IsSoundUnlessFailed, IsSoundWithRoot, uncached_state, thread_state, ReadsOrReports, TreeState, without_cache, HasErrorCause}
use Rattle.lfs_tree.specs.TreeState.{OnlyReadsTree, ReadsTreeOrFails, FailedByReading}
use Rattle.lfs_tree.proofs.Mounting.{sound_read}
use Rattle.lfs_tree.proofs.SameErrors.{same_error}

abbrev see : Disk → List CallEvent → List Pair → BlockStates → Bool → Bool → CachedBlocks → TreeState
see disk history pairs map writable failed cache = record { disk = disk; history = history; pairs = pairs; map = map; writable = writable; failed = failed; cache = cache }

-- a thread after a call with this result
abbrev pub behind : {X : Type 0} → ThreadView → Result X Error → ThreadView
behind b r = record b { failed = is_err r || b.failed }

module _ {X : Type 0} (a b : ThreadView) (root : ℕ) (writable : Bool) (h : IsSoundWithRoot a root writable) where
  asked : (r : Result X Error) → ReadsOrReports a b r → OnOk r (OnlyReadsTree (thread_state a writable) (thread_state (behind b r) writable))
  asked (Err e) k = tt
  asked (Ok x) k = record {
    same = ap (λ z. see z b.kept.history b.kept.pairs b.kept.map writable b.failed b.cache) k.only.disk
        ∙ ap (λ z. see a.kept.disk b.kept.history z b.kept.map writable b.failed b.cache) k.only.pairs
        ∙ ap (λ z. see a.kept.disk b.kept.history a.kept.pairs z writable b.failed b.cache) k.only.map
        ∙ ap (λ z. see a.kept.disk b.kept.history a.kept.pairs a.kept.map writable z b.cache) (k.works ∙ sym h.works);
    failed = λ e. absurd (let z = sym h.works ∙ e in cc);
    reads = k.only.reads;
    no_fault = k.reported.no_fault (λ e. absurd (cc));
  }

  broken : (r : Result X Error) → ReadsOrReports a b r → OnErr r (FailedByReading (thread_state a writable) (thread_state (behind b r) writable))
  broken (Ok x) k = tt
  broken (Err e) k = record { failed = refl; disk = k.only.disk; reads = k.only.reads }

  reported : (r : Result X Error) → ReadsOrReports a b r → IfErr r (HasErrorCause (thread_state a writable) (thread_state (behind b r) writable))
  reported (Ok x) k = tt
  reported (Err e) k = record {
    errors = k.reported.errors;
    fault = λ io. k.reported.fault (ap Err io);
    no_fault = λ other. k.reported.no_fault (λ z. other (same_error e Io z));
  }

  pub asking : (now : TreeState) (r : Result X Error) (c : ThreadView) → thread_state a writable ≡ now → c ≡ behind b r → ReadsOrReports a b r → ReadsTreeOrFails now r (thread_state c writable)
  asking now r c view is k =
      subst (λ (s : TreeState). ReadsTreeOrFails s r (thread_state c writable)) view
      (subst (λ (t : ThreadView). ReadsTreeOrFails (thread_state a writable) r (thread_state t writable)) (sym is) (record { asked = asked r k; broken = broken r k; errors = reported r k }))

  -- it stays what it is
  pub rooted : (r : Result X Error) → ReadsOrReports a b r → IsSoundWithRoot b root writable
  rooted r k = record { works = k.works; sound = sound_read a.kept b.kept writable false false k.only h.sound; root_is = h.root_is ∙ ap count_before_root (sym k.only.pairs) }

  -- without an error
  pub held : (r : Result X Error) (c : ThreadView) → c ≡ behind b r → ReadsOrReports a b r → IsSoundUnlessFailed c root writable
  held r c is k = subst (λ (t : ThreadView). IsSoundUnlessFailed t root writable) (sym is) (go r k)
    where
      go : (r : Result X Error) → ReadsOrReports a b r → IsSoundUnlessFailed (behind b r) root writable
      go (Err e) k f = absurd (cc)
      go (Ok x) k f = rooted (Ok x) k

-- ---- what is seen of a thread

module _ (thread : ThreadView) (root : ℕ) (writable : Bool) (now : TreeState) (kept : IsSoundUnlessFailed thread root writable) (view : thread_state thread writable ≡ now) where
  pub works_held : now.failed ≡ false → thread.failed ≡ false
  works_held e = ap (λ (s : TreeState). s.failed) view ∙ e

  pub rooted_held : now.failed ≡ false → IsSoundWithRoot thread root writable
  rooted_held e = kept (works_held e)

  -- what works and may be written, is seen so
  pub seen_working : now.failed ≡ false → now.writable ≡ true → without_cache now ≡ uncached_state thread.kept true false
  seen_working e w = ap without_cache (sym view) ∙ ap₂ (λ a b. uncached_state thread.kept a b) (ap (λ (s : TreeState). s.writable) view ∙ w) (works_held e)
