-- A step of an operation leads to an accepted disk in the writing profile, with the tree from before the operation or the one from after it.
use Rattle.std.proofs.Common.{ℕ, ◌≡◌, ◌≢◌, inl, Bool, true, false, List, [], ◌∷◌, ◌++◌, Option, Some, None, arith, sym, subst, ◌∙◌, append-nil}
use Rattle.std.specs.Prelude.{All}
use Rattle.lfs_model.proofs.Common.{All-from_recursion, recursion_from_All, Disk, Slot, Tail, same_pair, FitsInPair, Pair, is_hard_tail, Path, Tree, IsWritable, IsWritableSlot, HasNoEmptyPairs, IsDirectoryAtPath, disk_tree, pair_with_slots, IsFittingPair, HasEitherTree, IsWritableChange}
use Rattle.lfs_model.proofs.Counts.{Each, each_append, each_left, each_right, each_pieces}
use Rattle.lfs_model.proofs.Laws.{PathAddresses}
use Rattle.lfs_model.proofs.Changes.{IsChangedImage}
use Rattle.lfs_model.proofs.Sites.{Site, dirs_at, thread_at, begin_of}
use Rattle.lfs_model.proofs.Listings.{IsRun}
use Rattle.lfs_model.proofs.Splices.{all_slots}
use Rattle.lfs_model.proofs.Moves.{IsStep}
use Rattle.lfs_model.proofs.Beside.{last_site, IsStepBeside}
use Rattle.lfs_model.proofs.Drops.{IsStepDrop, softened}
use Rattle.lfs_model.proofs.MoveSets.{IsMoveSet}
use Rattle.lfs_model.proofs.Rests.{IsMoveEnd}
use Rattle.lfs_model.proofs.Writable.{IsWithin}
use Rattle.lfs_model.proofs.Became.{Became, became_within, became_filled, fits_same, cut_some}
use Rattle.lfs_model.proofs.Writable.{last_tail_is_hard}
use Rattle.lfs_model.proofs.LeftFiles.{Parts}
use Rattle.lfs_model.proofs.MadeDirectory.{Cut, follows_then}
use Rattle.lfs_model.proofs.Profiles.{step_writable, drop_writable, beside_writable, set_writable, end_writable}
pub use Rattle.lfs_model.specs.layers.Steps.{IsWritableChange}

-- ---- what a step comes to

-- one after another
pub taken_then : (a b c : Disk) (ps qs rs : List Pair) (f g : Tree → Tree) (v w : PathAddresses → PathAddresses) → Parts f g → IsWritableChange a ps b qs f v → IsWritableChange b qs c rs g w → IsWritableChange a ps c rs (λ t. g (f t)) (λ d. w (v d))
taken_then a b c ps qs rs f g v w parts first second = record { follows = follows_then a b c ps qs rs f g v w parts first.follows second.follows; writable = second.writable }

-- the tree is still the one from before, or already the one from after it
pub taken_before : (disk : Disk) (ps : List Pair) (new : Disk) (qs : List Pair) (walk : PathAddresses → PathAddresses) (after : Tree) → IsWritableChange disk ps new qs (λ t. t) walk → HasEitherTree new (disk_tree disk ps) after
taken_before disk ps new qs walk after step = record { pairs = qs; accepted = step.follows.accepted; writable = step.writable; tree = inl step.follows.shows }

-- ---- the profile of a pair that changes

-- the pair of a site keeps to the profile
pub within_at : (disk : Disk) (w : Site) (p : Pair) (rest : List Pair) → IsWritable disk (thread_at w (p ∷ rest)) → IsWithin disk.profile disk.block_size disk.page p
within_at disk w p rest ok = record {
  pair = here (IsFittingPair disk) (recursion_from_All (IsFittingPair disk) (thread_at w (p ∷ rest)) ok.pairs);
  slots = here (λ (x : Pair). All (IsWritableSlot disk.profile disk.block_size disk.page) x.content.slots) (recursion_from_All (λ (x : Pair). All (IsWritableSlot disk.profile disk.block_size disk.page) x.content.slots) (thread_at w (p ∷ rest)) ok.slots);
}
  where
    here : (F : Pair → Type 0) → Each F (thread_at w (p ∷ rest)) → F p
    here F h = (each_right F (w.before ++ w.left) (p ∷ rest ++ (w.right ++ w.after)) (each_right F w.chain (dirs_at w (p ∷ rest)) h)).0

-- a pair with the slots of another
pub within_same : (disk : Disk) (p q : Pair) → q.content.slots ≡ p.content.slots → IsWithin disk.profile disk.block_size disk.page p → IsWithin disk.profile disk.block_size disk.page q
within_same disk p q e h = record { pair = fits_same disk p q e h.pair; slots = subst (All (IsWritableSlot disk.profile disk.block_size disk.page)) (sym e) h.slots }

-- some slots of a pair within the profile are replaced by others that fit
pub fit_spliced : (disk : Disk) (p : Pair) (l olds news r : List Slot) → IsWithin disk.profile disk.block_size disk.page p → p.content.slots ≡ l ++ (olds ++ r) → Each (IsWritableSlot disk.profile disk.block_size disk.page) news
    → Each (IsWritableSlot disk.profile disk.block_size disk.page) (l ++ (news ++ r))
fit_spliced disk p l olds news r h was fit =
    let F : Slot → Type 0 = IsWritableSlot disk.profile disk.block_size disk.page in
    let held = subst (Each (IsWritableSlot disk.profile disk.block_size disk.page)) was (recursion_from_All (IsWritableSlot disk.profile disk.block_size disk.page) p.content.slots h.slots) in
    each_append (IsWritableSlot disk.profile disk.block_size disk.page) l (news ++ r) (each_left (IsWritableSlot disk.profile disk.block_size disk.page) l (olds ++ r) held)
    (each_append (IsWritableSlot disk.profile disk.block_size disk.page) news r fit (each_right (IsWritableSlot disk.profile disk.block_size disk.page) olds r (each_right (IsWritableSlot disk.profile disk.block_size disk.page) l (olds ++ r) held)))

-- What a commit makes of the pair p at a site: q, or q and a new pair, with news where olds stood. The last slot goes only from a
-- pair that no hard tail leads to.
pub record IsPut (disk : Disk) (w : Site) (p q : Pair) (more : List Pair) (l olds news r : List Slot) : Type 0 where
  pub writable : IsWritable disk (thread_at w (p ∷ []))
  pub was : p.content.slots ≡ l ++ (olds ++ r)
  pub is : all_slots (q ∷ more) ≡ l ++ (news ++ r)
  pub became : Became disk p (pair_with_slots (l ++ (news ++ r)) p) q more
  pub fit : Each (IsWritableSlot disk.profile disk.block_size disk.page) news
  pub filled : last_tail_is_hard false (w.before ++ w.left) ≡ true → l ++ (news ++ r) ≢ []

module _ (disk : Disk) (w : Site) (p q : Pair) (more : List Pair) (l olds news r : List Slot) (c : IsPut disk w p q more l olds news r) where
  pub put_within : Each (IsWithin disk.profile disk.block_size disk.page) (q ∷ more)
  put_within = became_within disk p (pair_with_slots (l ++ (news ++ r)) p) q more c.is c.became (fit_spliced disk p l olds news r (within_at disk w p [] c.writable) c.was c.fit)

  pub put_filled : HasNoEmptyPairs (last_tail_is_hard false (w.before ++ w.left)) (p ∷ [] ++ (w.right ++ w.after)) → HasNoEmptyPairs (last_tail_is_hard false (w.before ++ w.left)) (q ∷ more ++ (w.right ++ w.after))
  put_filled h = became_filled disk p (pair_with_slots (l ++ (news ++ r)) p) q more (w.right ++ w.after) c.is c.became (last_tail_is_hard false (w.before ++ w.left)) c.filled h

  -- a commit that changes slots, and perhaps the delta of the global state but for a move
  pub commit_taken : (new : Disk) (extra fresh : List ℕ) (change : Tree → Tree) (walk : PathAddresses → PathAddresses) → IsStep disk new w p [] q more extra fresh l olds news r
      → IsChangedImage disk (thread_at w (p ∷ [])) new (thread_at w (q ∷ more)) change walk → IsWritableChange disk (thread_at w (p ∷ [])) new (thread_at w (q ∷ more)) change walk
  commit_taken new extra fresh change walk step follows = record {
    follows = follows;
    writable = step_writable disk new w p [] q more extra fresh l olds news r step c.writable put_within put_filled;
  }

  -- the first step of a rename across pairs: the slot comes, and a set move names the old one
  pub set_used : (new : Disk) (wo : Site) (o : Pair) (lo : List Slot) (u : Slot) (ro : List Slot) (extra : List ℕ) (v : Slot) (change : Tree → Tree) (walk : PathAddresses → PathAddresses)
      → IsMoveSet disk new wo o lo u ro w p [] q more extra l olds v r → IsChangedImage disk (thread_at w (p ∷ [])) new (thread_at w (q ∷ more)) change walk
      → IsWritableChange disk (thread_at w (p ∷ [])) new (thread_at w (q ∷ more)) change walk
  set_used new wo o lo u ro extra v change walk step follows = record {
    follows = follows;
    writable = set_writable disk new wo o lo u ro w p [] q more extra l olds v r step c.writable put_within put_filled;
  }

-- the second one: the old slot goes, and the set move ends
pub end_taken : (disk new : Disk) (w : Site) (p q : Pair) (more : List Pair) (l : List Slot) (u : Slot) (r : List Slot) (change : Tree → Tree) (walk : PathAddresses → PathAddresses) → IsPut disk w p q more l (u ∷ []) [] r
    → IsMoveEnd disk new w p [] q more l u r → IsChangedImage disk (thread_at w (p ∷ [])) new (thread_at w (q ∷ more)) change walk → IsWritableChange disk (thread_at w (p ∷ [])) new (thread_at w (q ∷ more)) change walk
end_taken disk new w p q more l u r change walk c step follows = record {
  follows = follows;
  writable = end_writable disk new w p [] q more l u r step c.writable (put_within disk w p q more l (u ∷ []) [] r c) (put_filled disk w p q more l (u ∷ []) [] r c);
}

-- ---- a pair goes

-- q has p's slots and the tail of o after it, which goes
pub record IsTakenOver (disk : Disk) (w : Site) (p o q : Pair) : Type 0 where
  pub writable : IsWritable disk (thread_at w (p ∷ o ∷ []))
  pub tail : q.content.tail ≡ o.content.tail
  pub slots : q.content.slots ≡ p.content.slots

module _ (disk : Disk) (w : Site) (p o q : Pair) (c : IsTakenOver disk w p o q) where
  over_within : Each (IsWithin disk.profile disk.block_size disk.page) (q ∷ [])
  over_within = (within_same disk p q c.slots (within_at disk w p (o ∷ []) c.writable), tt)

  over_filled : HasNoEmptyPairs (last_tail_is_hard false (w.before ++ w.left)) (p ∷ o ∷ [] ++ (w.right ++ w.after)) → HasNoEmptyPairs (last_tail_is_hard false (w.before ++ w.left)) (q ∷ [] ++ (w.right ++ w.after))
  over_filled h = ((λ e n. h.0 e (sym c.slots ∙ n)), subst (λ t. HasNoEmptyPairs (is_hard_tail t) (w.right ++ w.after)) (sym c.tail) h.1.1)

  -- with its only slot
  pub drop_taken : (new : Disk) (extra fresh : List ℕ) (l olds news r : List Slot) (change : Tree → Tree) (walk : PathAddresses → PathAddresses) → IsStep disk new w p (o ∷ []) q [] extra fresh l olds news r
      → IsChangedImage disk (thread_at w (p ∷ o ∷ [])) new (thread_at w (q ∷ [])) change walk → IsWritableChange disk (thread_at w (p ∷ o ∷ [])) new (thread_at w (q ∷ [])) change walk
  drop_taken new extra fresh l olds news r change walk step follows = record {
    follows = follows;
    writable = step_writable disk new w p (o ∷ []) q [] extra fresh l olds news r step c.writable over_within over_filled;
  }

  -- with the slot that the set move names
  pub end_drop_taken : (new : Disk) (l : List Slot) (u : Slot) (r : List Slot) (change : Tree → Tree) (walk : PathAddresses → PathAddresses) → IsMoveEnd disk new w p (o ∷ []) q [] l u r
      → IsChangedImage disk (thread_at w (p ∷ o ∷ [])) new (thread_at w (q ∷ [])) change walk → IsWritableChange disk (thread_at w (p ∷ o ∷ [])) new (thread_at w (q ∷ [])) change walk
  end_drop_taken new l u r change walk step follows = record {
    follows = follows;
    writable = end_writable disk new w p (o ∷ []) q [] l u r step c.writable over_within over_filled;
  }

-- the pair o after p begins a directory, and goes from the thread; q has p's slots, and a soft tail to where o's led
pub unthread_taken : (disk new : Disk) (chain before left after : List Pair) (p o q : Pair) (l r : List Slot) (change : Tree → Tree) (walk : PathAddresses → PathAddresses)
    → IsWritable disk (thread_at (last_site chain before left after) (p ∷ ([] ++ o ∷ []))) → q.content.tail ≡ softened o.content.tail → q.content.slots ≡ p.content.slots
    → IsStepDrop disk new chain before left after p [] o q [] [] [] l [] [] r
    → IsChangedImage disk (thread_at (last_site chain before left after) (p ∷ ([] ++ o ∷ []))) new (thread_at (last_site chain before left after) (q ∷ [])) change walk
    → IsWritableChange disk (thread_at (last_site chain before left after) (p ∷ ([] ++ o ∷ []))) new (thread_at (last_site chain before left after) (q ∷ [])) change walk
unthread_taken disk new chain before left after p o q l r change walk ok tail slots step follows = record {
  follows = follows;
  writable = drop_writable disk new chain before left after p [] o q [] [] [] l [] [] r step ok (within_same disk p q slots (within_at disk (last_site chain before left after) p (o ∷ []) ok), tt)
      (λ h. ((λ e n. h.0 e (sym slots ∙ n)), subst (λ t. HasNoEmptyPairs (is_hard_tail t) after) (sym tail) (weaker o.content.tail after h.1.1)));
}
  where
    none_needed : (rs : List Pair) (b : Bool) → HasNoEmptyPairs b rs → HasNoEmptyPairs false rs
    none_needed [] b k = tt
    none_needed (r ∷ rs) b k = ((λ e. absurd (cc)), k.1)

    weaker : (t : Option Tail) (rs : List Pair) → HasNoEmptyPairs (is_hard_tail t) rs → HasNoEmptyPairs (is_hard_tail (softened t)) rs
    weaker None rs k = k
    weaker (Some t) rs k = none_needed rs t.hard k

-- ---- a pair comes

-- p becomes q, or q and a new pair, with news where olds stood, and a fresh pair f without slots after them
pub record IsPutBeside (disk : Disk) (w : Site) (p q : Pair) (more : List Pair) (f : Pair) (l olds news r : List Slot) : Type 0 where
  pub writable : IsWritable disk (thread_at w (p ∷ []))
  pub was : p.content.slots ≡ l ++ (olds ++ r)
  pub is : all_slots (q ∷ more) ≡ l ++ (news ++ r)
  pub cut : Cut disk (pair_with_slots (l ++ (news ++ r)) p) q more
  pub fit : Each (IsWritableSlot disk.profile disk.block_size disk.page) news
  pub filled : last_tail_is_hard false (w.before ++ w.left) ≡ true → l ++ (news ++ r) ≢ []
  pub run : IsRun (q ∷ more)
  pub empty : f.content.slots ≡ []
  pub tail : f.content.tail ≡ p.content.tail

module _ (disk new : Disk) (chain before left after : List Pair) (p q : Pair) (more : List Pair) (f : Pair) (l olds news r : List Slot)
    (c : IsPutBeside disk (last_site chain before left after) p q more f l olds news r) where
  abbrev draft : Pair
  draft = pair_with_slots (l ++ (news ++ r)) p

  fit_now : Each (IsWritableSlot disk.profile disk.block_size disk.page) (l ++ (news ++ r))
  fit_now = fit_spliced disk p l olds news r (within_at disk (last_site chain before left after) p [] c.writable) c.was c.fit

  empty_within : IsWithin disk.profile disk.block_size disk.page f
  empty_within = record {
    pair = subst (λ slots. FitsInPair disk.block_size disk.page (record { slots = slots; tail = f.content.tail; move = f.content.move })) (sym c.empty) (record { size = omega arith; count = omega arith });
    slots = subst (All (IsWritableSlot disk.profile disk.block_size disk.page)) (sym c.empty) (λ k x lt. absurd (omega arith));
  }

  beside_within : (more : List Pair) → all_slots (q ∷ more) ≡ l ++ (news ++ r) → Cut disk (pair_with_slots (l ++ (news ++ r)) p) q more → Each (IsWithin disk.profile disk.block_size disk.page) (q ∷ (more ++ f ∷ []))
  beside_within [] e k = (
    record {
      pair = fits_same disk draft q (sym (append-nil q.content.slots) ∙ e) k;
      slots = All-from_recursion (IsWritableSlot disk.profile disk.block_size disk.page) q.content.slots (subst (Each (IsWritableSlot disk.profile disk.block_size disk.page)) (sym (sym (append-nil q.content.slots) ∙ e)) fit_now);
    },
    (empty_within, tt),
  )
  beside_within (g ∷ []) e k =
      let all = each_pieces (IsWritableSlot disk.profile disk.block_size disk.page) (λ (x : Pair). x.content.slots) (q ∷ g ∷ []) (subst (Each (IsWritableSlot disk.profile disk.block_size disk.page)) (sym e) fit_now) in (
        record { pair = k.1; slots = All-from_recursion (IsWritableSlot disk.profile disk.block_size disk.page) q.content.slots all.0 },
        (record { pair = k.2; slots = All-from_recursion (IsWritableSlot disk.profile disk.block_size disk.page) g.content.slots all.1.0 }, (empty_within, tt)),
      )
  beside_within (g ∷ h ∷ more) e k = absurd k

  -- no hard tail leads to the fresh pair
  soft_front : (t : Bool) → t ≡ false → t ≡ true → f.content.slots ≢ []
  soft_front t e k = absurd (let z = sym e ∙ k in cc)

  beside_filled : (more : List Pair) → all_slots (q ∷ more) ≡ l ++ (news ++ r) → Cut disk (pair_with_slots (l ++ (news ++ r)) p) q more → IsRun (q ∷ more)
      → HasNoEmptyPairs (last_tail_is_hard false (before ++ left)) (p ∷ [] ++ after) → HasNoEmptyPairs (last_tail_is_hard false (before ++ left)) (q ∷ (more ++ f ∷ []) ++ after)
  beside_filled [] e k run h = (
    (λ front none. c.filled front (sym (sym (append-nil q.content.slots) ∙ e) ∙ none)),
    (soft_front (is_hard_tail q.content.tail) run, subst (λ t. HasNoEmptyPairs (is_hard_tail t) after) (sym c.tail) h.1),
  )
  beside_filled (g ∷ []) e k run h =
      let some = cut_some disk draft q g e k.0 k.1 k.2 in
      ((λ front. some.0), ((λ hard. some.1), (soft_front (is_hard_tail g.content.tail) run.1, subst (λ t. HasNoEmptyPairs (is_hard_tail t) after) (sym c.tail) h.1)))
  beside_filled (g ∷ i ∷ more) e k run h = absurd k

  pub beside_taken : (extra fresh : List ℕ) (change : Tree → Tree) (walk : PathAddresses → PathAddresses) → IsStepBeside disk new chain before left after p [] q more f extra fresh l olds news r
      → (P : Path) (a : ℕ × ℕ) → IsDirectoryAtPath (thread_at (last_site chain before left after) (p ∷ [])) P a → same_pair (begin_of (last_site chain before left after) (p ∷ [])) a ≡ true
      → IsChangedImage disk (thread_at (last_site chain before left after) (p ∷ [])) new (thread_at (last_site chain before left after) (q ∷ (more ++ f ∷ []))) change walk
      → IsWritableChange disk (thread_at (last_site chain before left after) (p ∷ [])) new (thread_at (last_site chain before left after) (q ∷ (more ++ f ∷ []))) change walk
  beside_taken extra fresh change walk step P a leads same follows = record {
    follows = follows;
    writable = beside_writable disk new chain before left after p [] q more f extra fresh l olds news r step P a leads same c.writable (beside_within more c.is c.cut) (beside_filled more c.is c.cut c.run);
  }
