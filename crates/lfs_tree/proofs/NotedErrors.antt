-- A change of a thread, which has failed after an error; the root directory begins with the same pair.
use Rattle.std.proofs.Common.{ℕ, ◌≡◌, ◌∙◌, ◌||◌, true, Result, Ok, Err, refl, sym, subst}
use Rattle.std.specs.Prelude.{OnErr, is_err}
use Rattle.lfs_device.specs.declared.error.Error.{Error}
use Rattle.lfs_tree.proofs.Common.{Tree, KeptThread, ThreadView, ChangesTreeOrFails, IsSoundUnlessFailed, IsSoundWithRoot}

module _ {X : Type 0} (t b new : ThreadView) (Done : KeptThread → Type 0) (after : Tree) (r : Result X Error) (w : ChangesTreeOrFails t Done after r b) (f : new ≡ record b { failed = is_err r || b.failed }) where
  pub noted : ChangesTreeOrFails t Done after r new
  noted = subst (λ (n : ThreadView). ChangesTreeOrFails t Done after r n) (sym f) (go r w)
    where
      go : (r : Result X Error) → ChangesTreeOrFails t Done after r b → ChangesTreeOrFails t Done after r (record b { failed = is_err r || b.failed })
      go (Ok x) w = record { done = w.done; works = w.works; stands = w.stands; called = w.called; errors = w.errors; survives = w.survives }
      go (Err e) w = record { done = w.done; works = tt; stands = w.stands; called = w.called; errors = w.errors; survives = w.survives }

  pub noted_failed : OnErr r (new.failed ≡ true)
  noted_failed = subst (λ (n : ThreadView). OnErr r (n.failed ≡ true)) (sym f) (go r)
    where
      go : (r : Result X Error) → OnErr r ((is_err r || b.failed) ≡ true)
      go (Ok x) = tt
      go (Err e) = refl

  pub noted_held : (root : ℕ) → IsSoundWithRoot t root true → IsSoundUnlessFailed new root true
  noted_held root rooted = subst (λ (n : ThreadView). IsSoundUnlessFailed n root true) (sym f) (go r w)
    where
      go : (r : Result X Error) → ChangesTreeOrFails t Done after r b → IsSoundUnlessFailed (record b { failed = is_err r || b.failed }) root true
      go (Err e) w works = absurd (cc)
      go (Ok x) w works = record { works = w.works; sound = w.stands.sound; root_is = rooted.root_is ∙ sym w.stands.root }
