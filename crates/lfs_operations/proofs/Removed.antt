-- The removal of a file whose pair stays, as a step of the thread.
use Rattle.lfs_operations.proofs.Common.{Err, Result, append_assoc, nat_eq, slice_get, ℕ, ◌≡◌, ◌≢◌, ◌⊎◌, inl, inr, ◌+◌, ◌<◌, ◌&&◌, not, Bool, true, false, eqb-true, List, [], ◌∷◌, ◌++◌, length, Some, refl, sym, ap, subst, ◌∙◌, arith, append-nil, length-append, eqb-false, tree_removing, Free, InFlight, Delete, Disk, CallEvent, SurvivesLossSince, Slot, same_pair, Pair, pairs_blocks, first_address, Tree, struct_blocks, disk_tree, Name, IsChangedImage, CompletesOperation, commit_step, recovered_from, count_append, HoldsAtLosses-weaker, Ends, file_goes, same, same_number, site, pair_back, pair_on, IsPairAt, IsDistinct, Site, thread_at, last_tail_is_hard, CleanLossLeaves, KeptThread, ThreadView, ThreadReportsErrors, IsPairCommitted, LossLeavesPair, thread_pair, is_err, Error, remove_completed, CanEditIn, editable_slot, HasTreeAfterDrops, HasTreeBeforeMapUpdate, CanRemoveIn, IsFileRemoved, ReportsCommit, drops_pair_after_removal, tree_without_entry}
use Rattle.lfs_model.specs.session.Operations as ops
use Rattle.lfs_operations.proofs.Held.{here}
use Rattle.lfs_operations.proofs.Splicing.{Commits, IsSplicing}
use Rattle.lfs_operations.proofs.Stepped.{HasStep, becomes, put_step, survives}
use Rattle.lfs_model.proofs.PairLists.{get_behind}
use Rattle.lfs_operations.proofs.RenameReadOver.{reported_again}
use Rattle.lfs_operations.proofs.PairAt.{HasPairAt, pair_at}
use Rattle.lfs_operations.proofs.MovTurned.{content_with}
use Rattle.lfs_operations.proofs.Unlinked.{delta_stays, going_made, pair_there}

-- no hard tail leads to the first pair of a directory
pub flag_ends : (before : List Pair) → Ends before → last_tail_is_hard false before ≡ false
flag_ends [] h = refl
flag_ends (p ∷ []) h = h
flag_ends (p ∷ q ∷ ps) h = flag_ends (q ∷ ps) h

-- where a pair is the first of its directory, no other stands in front of it there
pub alone : (chain before left tail : List Pair) (p : Pair) (a : ℕ × ℕ) (first : ℕ) → IsDistinct nat_eq (pairs_blocks (chain ++ ((before ++ left) ++ p ∷ tail))) → same_pair (first_address (left ++ p ∷ [])) a ≡ true
    → IsPairAt (chain ++ ((before ++ left) ++ p ∷ tail)) a first → first ≡ length chain + length (before ++ left) → left ≡ []
alone chain before [] tail p a first distinct h b n = refl
alone chain before (x ∷ left) tail p a first distinct h b n =
    let ps = chain ++ ((before ++ x ∷ left) ++ p ∷ tail) in
    let whole : chain ++ ((before ++ x ∷ left) ++ p ∷ tail) ≡ (chain ++ before) ++ x ∷ (left ++ p ∷ tail)
    = ap (λ z. chain ++ z) (append_assoc before (x ∷ left) (p ∷ tail)) ∙ sym (append_assoc chain before (x ∷ (left ++ p ∷ tail))) in
    let there = ap (λ z. slice_get z (length (chain ++ before))) whole ∙ get_behind (chain ++ before) x (left ++ p ∷ tail) in
    let e = same_number (chain ++ ((before ++ x ∷ left) ++ p ∷ tail)) (length (chain ++ before)) first x b.pair distinct there b.there (pair_on x.at a b.pair.at h (pair_back b.pair.at a b.same)) in
    let k = length-append chain before in
    let m = length-append before (x ∷ left) in
    absurd (omega arith)

-- where no block comes, and none becomes free
pub shrunk_from : (t new : KeptThread) (tree : Tree) (gone : List ℕ) → HasTreeBeforeMapUpdate t new tree gone [] → HasTreeAfterDrops t new tree gone
shrunk_from t new tree gone h = record {
  ready = h.ready;
  shows = h.shows;
  flying = λ b. (h.none_comes b, λ flies. h.stays b (λ free. absurd (let z : Some InFlight ≡ Some Free = sym flies ∙ free in cc)) ∙ flies);
  root = h.root;
}

-- a pair that doesn't go with its slot is the first of its directory, or has another one
pub stays_there : (t : KeptThread) (index id first : ℕ) (can : CanEditIn t index id) → can.first ≡ first → drops_pair_after_removal t index first ≡ false → (index ≡ can.first) ⊎ (1 < length (thread_pair t index).content.slots)
stays_there t index id first can begins goes = by (nat_eq index first) (nat_eq (length (thread_pair t index).content.slots) 1) refl refl goes
  where
    by : (x y : Bool) → nat_eq index first ≡ x → nat_eq (length (thread_pair t index).content.slots) 1 ≡ y → not x && y ≡ false → (index ≡ can.first) ⊎ (1 < length (thread_pair t index).content.slots)
    by true y e f k = inl (eqb-true index first e ∙ sym begins)
    by false true e f k = absurd (cc)
    by false false e f k = inr (
        let n = eqb-false (length (thread_pair t index).content.slots) 1 f in
        let h = ap length can.stands.stands.held in
        let l = length-append can.stands.stands.left (can.stands.stands.slot ∷ can.stands.stands.right) in
        let p = ap (λ (z : Pair). length z.content.slots) (here t can.ready can.first index can.stands.pair can.stands.rest can.stands.place) in
        omega arith)

-- where the pair of an entry stands
abbrev pub entry_site : {t : KeptThread} {index id : ℕ} → CanEditIn t index id → Site
entry_site {t = t} {index = index} can = site t.disk t.pairs can.path can.at can.ready.accepted can.leads can.first index can.stands.pair can.stands.rest can.stands.place can.begins

pub entry_stands : {t : KeptThread} {index id : ℕ} (can : CanEditIn t index id) → HasPairAt t index can.path can.at (entry_site can) can.stands.pair
entry_stands {t = t} {index = index} can = pair_at t can.ready can.path can.at can.leads can.first index can.stands.pair can.stands.rest can.stands.place can.begins

module _ (t : KeptThread) (index id first : ℕ) (can : CanEditIn t index id) (begins : can.first ≡ first) (goes : drops_pair_after_removal t index first ≡ false) where
  -- so it stays filled where a hard tail leads to it
  pub stays_filled : last_tail_is_hard false ((entry_site can).before ++ (entry_site can).left) ≡ true → can.stands.stands.left ++ can.stands.stands.right ≢ []
  stays_filled hard none = go (stays_there t index id first can begins goes) (entry_site can) (entry_stands can) hard
    where
      go : (index ≡ can.first) ⊎ (1 < length (thread_pair t index).content.slots) → (w : Site) → HasPairAt t index can.path can.at w can.stands.pair → last_tail_is_hard false (w.before ++ w.left) ≡ true → ⊥
      go (inl e) w stand hard =
          let none_before = alone w.chain w.before w.left (w.right ++ w.after) can.stands.pair can.at can.first (subst (λ z. IsDistinct nat_eq (pairs_blocks z)) stand.there can.ready.accepted.thread.distinct) stand.begin
          (subst (λ z. IsPairAt z can.at can.first) stand.there can.begins) (sym e ∙ stand.number) in
          let soft = ap (λ z. last_tail_is_hard false (w.before ++ z)) none_before ∙ ap (last_tail_is_hard false) (append-nil w.before) ∙ flag_ends w.before stand.site.ends in
          absurd (let z = sym hard ∙ soft in cc)
      go (inr many) w stand hard =
          let e = ap (λ (z : Pair). length z.content.slots) (pair_there can) in
          let h = ap length can.stands.stands.held in
          let i = length-append can.stands.stands.left (can.stands.stands.slot ∷ can.stands.stands.right) in
          let j = ap length none in
          let k = length-append can.stands.stands.left can.stands.stands.right in
          absurd (omega arith)

module _ (t : KeptThread) (index id first : ℕ) (take : CanRemoveIn t index id first) (goes : drops_pair_after_removal t index first ≡ false) where
  abbrev can : CanEditIn t index id
  can = take.can

  abbrev p : Pair
  p = can.stands.pair

  abbrev l : List Slot
  l = can.stands.stands.left

  abbrev r : List Slot
  r = can.stands.stands.right

  abbrev u : Slot
  u = can.stands.stands.slot

  abbrev w : Site
  w = entry_site can

  stand : HasPairAt t index can.path can.at w p
  stand = entry_stands can

  spliced : IsSplicing t index (Delete id ∷ []) w p l (u ∷ []) [] r (struct_blocks t.disk u.struct) []
  spliced = record {
    ready = can.ready;
    there = stand.there;
    place = stand.number;
    site = stand.site;
    content = content_with p (l ++ r) p.content.move;
    made = going_made can (delta_stays p);
    tail = refl;
    move = refl;
    was = can.stands.stands.held;
    now = refl;
    front = λ e. can.stands.stands.entry;
    entries = tt;
    fit = tt;
    flying = tt;
    apart = can.ready.accepted.owned_once;
    lists = λ disk geometry files come. tt;
    blocks = λ disk geometry files come b. let e = count_append b (struct_blocks t.disk u.struct) [] in omega arith;
  }

  filled : last_tail_is_hard false (w.before ++ w.left) ≡ true → l ++ ([] ++ r) ≢ []
  filled = stays_filled t index id first take.can take.begins goes

  abbrev turn : Tree → Tree
  turn = tree_removing (can.path ++ can.name ∷ [])

  follows : (disk : Disk) (q : Pair) (more : List Pair) → Commits t w p l (u ∷ []) [] r [] disk q more → IsChangedImage t.disk (thread_at w (p ∷ [])) disk (thread_at w (q ∷ more)) turn (λ d. d)
  follows disk q more x = subst (λ (n : Name). IsChangedImage t.disk (thread_at w (p ∷ [])) disk (thread_at w (q ∷ more)) (tree_removing (can.path ++ n ∷ [])) (λ d. d)) can.stands.stands.named
      (file_goes t.disk disk w p [] q more (pairs_blocks more) [] l r u (commit_step t.disk disk w p q more [] l (u ∷ []) [] r x.commit) can.stands.stands.entry can.path can.at stand.leads stand.begin take.file
      (λ e. (recovered_from t.disk (thread_at w (p ∷ [])) x.commit.accepted x.commit.settled).reached))

  pub gone : (new : KeptThread) → IsPairCommitted t index (Delete id ∷ []) new → IsFileRemoved t new take.can.path take.can.name (editable_slot take.can).struct
  gone new is = go (put_step t index (Delete id ∷ []) w p l (u ∷ []) [] r (struct_blocks t.disk u.struct) [] spliced new (inl is))
    where
      go : HasStep t w p l (u ∷ []) [] r (struct_blocks t.disk u.struct) [] new → IsFileRemoved t new can.path can.name u.struct
      go x = record {
        now = shrunk_from t new (turn (disk_tree t.disk t.pairs)) (struct_blocks t.disk u.struct)
            (becomes t index (Delete id ∷ []) w p l (u ∷ []) [] r (struct_blocks t.disk u.struct) [] spliced turn (λ disk q more y. ((λ d. d), follows disk q more y)) filled new x);
        completed = λ z given tree is_path. subst (λ y. CompletesOperation t.disk y z (ops.Remove given) new.disk new.pairs) (sym stand.there)
            (subst (λ y. CompletesOperation t.disk (thread_at w (p ∷ [])) z (ops.Remove given) new.disk y) (sym x.pairs)
            (remove_completed t.disk new.disk w p x.q x.more l r u x.commit.commit can.stands.stands.entry take.file can.path can.at stand.leads stand.begin z given (tree ∙ ap (disk_tree t.disk) stand.there)
            (is_path ∙ ap (λ n. can.path ++ n ∷ []) (sym can.stands.stands.named)) filled));
        once = λ b. let e = x.used.same b in let o = x.once b in omega arith;
      }

  pub remove_survives : (new : List CallEvent) → CleanLossLeaves t.history new (LossLeavesPair t index (Delete id ∷ [])) → SurvivesLossSince t.disk t.history new (disk_tree t.disk t.pairs) (tree_without_entry t take.can.path take.can.name)
  remove_survives new stops = survives t index (Delete id ∷ []) w p l (u ∷ []) [] r (struct_blocks t.disk u.struct) [] spliced turn (λ disk q more y. ((λ d. d), follows disk q more y)) filled new
      (λ clean. HoldsAtLosses-weaker (λ left x. inl x) (stops clean))

-- ---- errors

-- an error that is passed on
pub reports_again : {X Y : Type 0} (old new : ThreadView) (e : Error) (result : Result X Error) (given : Result Y Error) → result ≡ Err e → given ≡ Err e → new.failed ≡ is_err result → ThreadReportsErrors old.kept new.kept result → ReportsCommit old new given
reports_again old new e result given is same failed reported = record {
  failed = failed ∙ ap is_err is ∙ sym (ap is_err same);
  reported = reported_again old.kept new.kept e result given is same reported;
}
