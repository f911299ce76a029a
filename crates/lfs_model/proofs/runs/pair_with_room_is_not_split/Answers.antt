use Rattle.std.proofs.Common.{◌+◌, ◌≤◌, ◌≡◌, length, true, [], ◌∷◌, ◌++◌, List, None, inl, inr, refl, sym, ap, subst, ◌∙◌, arith}
use Rattle.std.specs.Prelude.{codes, sum_by}
use Rattle.lfs_model.proofs.Common.{Disk, pair_capacity, slots_limit, default_profile, Slot, slot_size, same_pair, zero_gstate, Pair, superblock_pair_address, pairs_gstate, fresh_pair, superblock_slot, empty_tree, mounted_session, creating_flags, file_slot, ReplacesSlots, IsUnreachedOrRemoved, IsFittingPair, IsPairSplitOrDropped, ArePairsSplitOrDropped, IsLayoutAfterOperation, IsLayoutAfterRecovery, small_image, two_commit_image}
use Rattle.lfs_model.specs.session.Operations as ops
use Rattle.lfs_model.specs.examples.Runs.{root_with_file_b}
use Rattle.lfs_model.proofs.Sites.{among_from}
use Rattle.lfs_model.specs.session.History.{CallEvent}
use Rattle.lfs_model.specs.session.Moved.{IsLayoutAfterRelocation}
use Rattle.lfs_model.proofs.Unmoved.{laid_without_cycles}
use Rattle.lfs_model.proofs.Committed.{nothing_moved}
use Rattle.lfs_model.proofs.OnePair.{one_draft, one_more_fits, one_stands}
use Rattle.lfs_model.proofs.runs.pair_with_room_is_not_split.Goals as goal

abbrev ps : List Pair
ps = fresh_pair small_image ∷ []

abbrev op : ops.Operation
op = ops.Open (codes "/b") creating_flags

stays : IsUnreachedOrRemoved ps op superblock_pair_address → ⊥
stays (inl n) = n ([], superblock_pair_address, (refl, refl))
stays (inr a) = among_from (λ at. same_pair superblock_pair_address at ≡ true) [] a

fits : IsFittingPair small_image root_with_file_b
fits = one_more_fits small_image (fresh_pair small_image) (superblock_slot default_profile 1024 2 ∷ []) [] (file_slot (codes "b")) refl (omega arith) (omega arith)

pub returns-clause-created : goal.returns-clause-created
returns-clause-created c = record {
  drafts = root_with_file_b ∷ [];
  parts = (root_with_file_b ∷ []) ∷ [];
  front = root_with_file_b ∷ [];
  fresh = [];
  back = [];
  edits = (refl, record { before = []; pair = fresh_pair small_image; after = []; left = superblock_slot default_profile 1024 2 ∷ []; right = []; was = refl; held = refl; is = refl });
  stand = ((refl, refl, fits, stays, λ e. absurd (cc)), tt);
  joined = refl;
  is = refl;
}

-- a pair that has the superblock alone isn't cut for a file
not_cut : (p q f : Pair) → p.content.slots ≡ superblock_slot default_profile 1024 2 ∷ [] → pairs_gstate (p ∷ []) ≡ zero_gstate → IsLayoutAfterOperation small_image (p ∷ []) (mounted_session empty_tree) op two_commit_image (q ∷ f ∷ []) → ⊥
not_cut p q f slots still h =
    let e = h.edits in
    let d = one_draft [] (file_slot (codes "b") ∷ []) p h.drafts (subst (λ xs. ReplacesSlots [] (file_slot (codes "b") ∷ []) xs h.drafts) (nothing_moved (p ∷ []) still) e.1) in
    let stand = one_stands small_image (IsUnreachedOrRemoved (p ∷ []) op) _ h.parts (q ∷ f ∷ []) (subst (λ ds. ArePairsSplitOrDropped small_image (IsUnreachedOrRemoved (p ∷ []) op) 0 None ds h.parts) d.is h.stand)
    (h.joined ∙ ap (λ z. h.front ++ (z ++ h.back)) (sym e.0) ∙ sym h.is) in
    stand.2 (one_more_fits small_image p d.left d.right (file_slot (codes "b")) d.held
    (subst (λ xs. slot_size (file_slot (codes "b")) + sum_by slot_size xs ≤ pair_capacity 1024 128) (sym slots) (omega arith))
    (subst (λ (xs : List Slot). 1 + length xs ≤ slots_limit) (sym slots) (omega arith)))

pub returns-clause-not_cut : goal.returns-clause-not_cut
returns-clause-not_cut c = λ q f. not_cut (fresh_pair small_image) q f refl refl

-- what a recovery makes of a thread of one pair that has slots
settled : (disk : Disk) (between : List Pair) → IsLayoutAfterOperation small_image ps (mounted_session empty_tree) ops.Recover disk between → (q : Pair) × ((between ≡ q ∷ []) × (q.content.slots ≡ superblock_slot default_profile 1024 2 ∷ []))
settled disk between h = go between (one_stands small_image (IsUnreachedOrRemoved ps ops.Recover) (fresh_pair small_image) h.parts between
    (subst (λ ds. ArePairsSplitOrDropped small_image (IsUnreachedOrRemoved ps ops.Recover) 0 None ds h.parts) h.edits.1 h.stand)
    (h.joined ∙ ap (λ z. h.front ++ (z ++ h.back)) (sym h.edits.0) ∙ sym h.is))
  where
    fits_first : IsFittingPair small_image (fresh_pair small_image)
    fits_first = record { size = omega arith; count = omega arith }

    kept : IsUnreachedOrRemoved ps ops.Recover superblock_pair_address → ⊥
    kept (inl n) = n ([], superblock_pair_address, (refl, refl))
    kept (inr a) = among_from (λ at. same_pair superblock_pair_address at ≡ true) [] a

    go : (between : List Pair) → IsPairSplitOrDropped small_image true (IsUnreachedOrRemoved ps ops.Recover superblock_pair_address) (fresh_pair small_image) between → (q : Pair) × ((between ≡ q ∷ []) × (q.content.slots ≡ superblock_slot default_profile 1024 2 ∷ []))
    go [] (inl g) = absurd (kept g)
    go [] (inr (e, s)) = absurd (cc)
    go (q ∷ []) s = (q, (refl, s.1))
    go (q ∷ f ∷ []) s = absurd (s.2 fits_first)
    go (q ∷ f ∷ g ∷ more) s = absurd s

not_arranged : (q f : Pair) → IsLayoutAfterRecovery small_image ps (mounted_session empty_tree) op two_commit_image (q ∷ f ∷ []) → ⊥
not_arranged q f h = go h.between h.recovered.gstate h.operation (settled h.middle h.between h.recovery)
  where
    go : (between : List Pair) → pairs_gstate between ≡ zero_gstate → IsLayoutAfterOperation small_image between (mounted_session empty_tree) op two_commit_image (q ∷ f ∷ []) →
        (p : Pair) × ((between ≡ p ∷ []) × (p.content.slots ≡ superblock_slot default_profile 1024 2 ∷ [])) → ⊥
    go between still k (p, (e, s)) =
        not_cut p q f s (subst (λ xs. pairs_gstate xs ≡ zero_gstate) e still) (subst (λ xs. IsLayoutAfterOperation small_image xs (mounted_session empty_tree) op two_commit_image (q ∷ f ∷ [])) e k)

pub returns-clause-not_arranged : goal.returns-clause-not_arranged
returns-clause-not_arranged c = not_arranged

not_moved : (q f : Pair) (calls : List CallEvent) → IsLayoutAfterRelocation small_image ps (mounted_session empty_tree) op calls two_commit_image (q ∷ f ∷ []) → ⊥
not_moved q f calls h = not_arranged q f (laid_without_cycles small_image ps (mounted_session empty_tree) op calls two_commit_image (q ∷ f ∷ []) refl h)

pub returns-clause-not_moved : goal.returns-clause-not_moved
returns-clause-not_moved c = not_moved

pub returns-clause-no_effect : goal.returns-clause-no_effect
returns-clause-no_effect c = λ q f calls h. not_moved q f calls (h.arranged refl)
