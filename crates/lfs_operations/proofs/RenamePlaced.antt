-- Slots that are replaced by the same ones, of which one has another name, or for fewer.
use Rattle.lfs_operations.proofs.Common.{ℕ, ◌≡◌, ◌+◌, false, List, [], ◌∷◌, ◌++◌, length, Some, sym, ap, subst, ◌∙◌, arith, take, drop, take-append-drop, recursion_from_All, ContentChange, Disk, SameGeometry, PairContent, Slot, is_superblock, Pair, pairs_gstate, begins_with_superblock, count_before_root, IsWritableEntry, IsWritableSlot, BeginsWithSuperblock, IsAccepted, IsFileOrDirectory, IsWellFormedList, all_unmoved_slots, struct_blocks, SameFiles, slots_files, no_move_from, Each, occurrence_count, count_append, each_append, each_left, each_pieces, each_right, each_weaker, SameFileBlocks, is_list_same, Site, IsSite, dirs_at, thread_at, count_files, file_blocks, unmoved_in, KeptThread, complete_after, All, IsRecoveredWritableImage}
use Rattle.lfs_model.specs.declared.limits.AcceptedVersions.{AcceptedVersions}
use Rattle.lfs_model.proofs.Counts.{each_both}
use Rattle.lfs_operations.proofs.Splicing.{IsSplicing}

-- ---- what the others keep

-- What holds of the old slots holds of the new ones. They name the same files but for those of the slots that are gone.
pub record MovesSlots (olds news gone : List Slot) (u moved : Slot) : Type 1 where
  pub each : (P : Slot → Type 0) → (P u → P moved) → Each P olds → Each P news
  pub files : (disk : Disk) (b : ℕ) → occurrence_count b (file_blocks disk news) + occurrence_count b (file_blocks disk gone) ≡ occurrence_count b (file_blocks disk olds)

-- the same struct
abbrev pub with_name : Slot → List ℕ → Slot
with_name u name = record u { name = name }

pub carries_behind : (u : Slot) (name : List ℕ) (passed gone : List Slot) → MovesSlots (u ∷ (passed ++ gone)) (passed ++ with_name u name ∷ []) gone u (with_name u name)
carries_behind u name passed gone = record {
  each = λ P f h. each_append P passed (with_name u name ∷ []) (each_left P passed gone h.1) (f h.0, tt);
  files = λ disk b.
      let a = count_files b disk passed (with_name u name ∷ []) in
      let c = count_append b (struct_blocks disk u.struct) (file_blocks disk []) in
      let d = count_append b (struct_blocks disk u.struct) (file_blocks disk (passed ++ gone)) in
      let e = count_files b disk passed gone in
      omega arith;
}

pub carries_ahead : (u : Slot) (name : List ℕ) (gone passed : List Slot) → MovesSlots (gone ++ (passed ++ u ∷ [])) (with_name u name ∷ passed) gone u (with_name u name)
carries_ahead u name gone passed = record {
  each = λ P f h. let r = each_right P gone (passed ++ u ∷ []) h in (f (each_right P passed (u ∷ []) r).0, each_left P passed (u ∷ []) r);
  files = λ disk b.
      let a = count_files b disk gone (passed ++ u ∷ []) in
      let c = count_files b disk passed (u ∷ []) in
      let d = count_append b (struct_blocks disk u.struct) (file_blocks disk []) in
      let e = count_append b (struct_blocks disk u.struct) (file_blocks disk passed) in
      omega arith;
}

-- ---- entries

-- slots from one on that isn't a superblock's are entries
abbrev HasRests : List Slot → Type 0
HasRests slots = (l xs : List Slot) → slots ≡ l ++ xs → begins_with_superblock xs ≡ false → Each IsFileOrDirectory xs

headed_rests : (versions : AcceptedVersions) (bytes : List ℕ) (slots : List Slot) → BeginsWithSuperblock versions bytes slots → HasRests slots
headed_rests versions bytes [] h [] xs e f = subst (Each IsFileOrDirectory) e tt
headed_rests versions bytes [] h (x ∷ l) xs e f = absurd (cc)
headed_rests versions bytes (s ∷ slots) h [] xs e f = absurd (let z = sym f ∙ ap begins_with_superblock (sym e) ∙ h.0 in cc)
headed_rests versions bytes (s ∷ slots) h (x ∷ l) xs e f = each_right IsFileOrDirectory l xs (subst (Each IsFileOrDirectory) (rest e) (recursion_from_All IsFileOrDirectory slots h.2))
  where
    rest : {a b : Slot} {us vs : List Slot} → a ∷ us ≡ b ∷ vs → us ≡ vs
    rest k = cc

all_rests : (slots : List Slot) → All IsFileOrDirectory slots → HasRests slots
all_rests slots h l xs e f = each_right IsFileOrDirectory l xs (subst (Each IsFileOrDirectory) e (recursion_from_All IsFileOrDirectory slots h))

each_rests : (disk : Disk) (ps : List Pair) → IsAccepted disk ps → Each (λ p. HasRests p.content.slots) ps
each_rests disk ps ok = subst (Each (λ p. HasRests p.content.slots)) (take-append-drop (count_before_root ps + 1) ps)
    (each_append (λ p. HasRests p.content.slots) (take (count_before_root ps + 1) ps) (drop (count_before_root ps + 1) ps)
    (each_weaker (λ (p : Pair). BeginsWithSuperblock disk.profile.versions ok.superblock.0 p.content.slots) (λ (p : Pair). HasRests p.content.slots) (λ p h. headed_rests disk.profile.versions ok.superblock.0 p.content.slots h)
    (take (count_before_root ps + 1) ps) (recursion_from_All (λ (p : Pair). BeginsWithSuperblock disk.profile.versions ok.superblock.0 p.content.slots) (take (count_before_root ps + 1) ps) ok.superblock.1.1))
    (each_weaker (λ (p : Pair). All IsFileOrDirectory p.content.slots) (λ (p : Pair). HasRests p.content.slots) (λ p h. all_rests p.content.slots h) (drop (count_before_root ps + 1) ps)
    (recursion_from_All (λ (p : Pair). All IsFileOrDirectory p.content.slots) (drop (count_before_root ps + 1) ps) ok.slots)))

-- ---- the commit

-- At the site stands the pair of that number, whose slots are replaced; what the changes make of it is known.
pub record IsPlaced (t : KeptThread) (index : ℕ) (changes : List ContentChange) (w : Site) (p : Pair) (l olds news r gone : List Slot) (u moved : Slot) : Type 1 where
  pub ready : IsRecoveredWritableImage t
  pub there : t.pairs ≡ thread_at w (p ∷ [])
  pub place : index ≡ length w.chain + length (w.before ++ w.left)
  pub site : IsSite w (p ∷ [])
  pub content : PairContent
  pub made : complete_after t index changes ≡ Some content
  pub tail : content.tail ≡ p.content.tail
  pub was : p.content.slots ≡ l ++ (olds ++ r)
  pub now : content.slots ≡ l ++ (news ++ r)
  pub front : begins_with_superblock (olds ++ r) ≡ false
  pub carries : MovesSlots olds news gone u moved
  pub entry : IsFileOrDirectory u → IsFileOrDirectory moved
  pub struct : moved.struct ≡ u.struct
  pub other : is_superblock moved ≡ false
  pub fits : IsWritableEntry t.disk.profile t.disk.block_size t.disk.page moved

module _ (t : KeptThread) (index : ℕ) (changes : List ContentChange) (w : Site) (p : Pair) (l olds news r gone : List Slot) (u moved : Slot) (k : IsPlaced t index changes w p l olds news r gone u moved) where
  -- of the pairs at the site
  at_site : (P : Pair → Type 0) → Each P t.pairs → P p
  at_site P h = (each_right P (w.before ++ w.left) (p ∷ [] ++ (w.right ++ w.after)) (each_right P w.chain (dirs_at w (p ∷ [])) (subst (Each P) k.there h))).0

  of_slots : (P : Slot → Type 0) → Each P p.content.slots → Each P olds
  of_slots P h = each_left P olds r (each_right P l (olds ++ r) (subst (Each P) k.was h))

  -- what holds of all slots holds of those that are replaced
  pub of_olds : (P : Slot → Type 0) → Each P (all_unmoved_slots t.pairs) → Each P olds
  of_olds P h =
      let on = subst (Each P) (unmoved_in (pairs_gstate t.pairs) (no_move_from t.pairs k.ready.settled) t.pairs) h in
      of_slots P (at_site (λ (x : Pair). Each P x.content.slots) (each_pieces P (λ (x : Pair). x.content.slots) t.pairs on))

  entries_were : Each IsFileOrDirectory olds
  entries_were = each_left IsFileOrDirectory olds r (at_site (λ (x : Pair). HasRests x.content.slots) (each_rests t.disk t.pairs k.ready.accepted) l (olds ++ r) k.was k.front)

  fit_were : Each (IsWritableSlot t.disk.profile t.disk.block_size t.disk.page) olds
  fit_were = of_slots (IsWritableSlot t.disk.profile t.disk.block_size t.disk.page) (recursion_from_All (IsWritableSlot t.disk.profile t.disk.block_size t.disk.page) p.content.slots
      (at_site (λ (x : Pair). All (IsWritableSlot t.disk.profile t.disk.block_size t.disk.page) x.content.slots) (recursion_from_All (λ (x : Pair). All (IsWritableSlot t.disk.profile t.disk.block_size t.disk.page) x.content.slots) t.pairs k.ready.writable.slots)))

  pub entries_now : Each IsFileOrDirectory news
  entries_now = k.carries.each IsFileOrDirectory k.entry entries_were

  pub fit_now : Each (IsWritableSlot t.disk.profile t.disk.block_size t.disk.page) news
  fit_now = k.carries.each (IsWritableSlot t.disk.profile t.disk.block_size t.disk.page) (λ f. ((λ e. absurd (let z = sym k.other ∙ e in cc)), (λ e. k.fits))) fit_were

  pub lists_now : (disk : Disk) → SameGeometry t.disk disk → SameFiles t.disk disk (all_unmoved_slots t.pairs) → Each (λ s. IsWellFormedList disk s.struct) news
  lists_now disk geometry files = k.carries.each (λ (s : Slot). IsWellFormedList disk s.struct) (λ h. subst (IsWellFormedList disk) (sym k.struct) h)
      (each_both (λ (s : Slot). SameFileBlocks t.disk disk s.struct) (λ (s : Slot). IsWellFormedList t.disk s.struct) (λ (s : Slot). IsWellFormedList disk s.struct) (λ s f h. is_list_same t.disk disk s.struct geometry f h) olds
      (of_olds (λ (s : Slot). SameFileBlocks t.disk disk s.struct) files)
      (of_olds (λ (s : Slot). IsWellFormedList t.disk s.struct) (recursion_from_All (λ (s : Slot). IsWellFormedList t.disk s.struct) (all_unmoved_slots t.pairs) k.ready.accepted.lists)))

  pub blocks_now : (disk : Disk) → SameGeometry t.disk disk → SameFiles t.disk disk (all_unmoved_slots t.pairs) → (b : ℕ) → occurrence_count b (file_blocks disk news) + occurrence_count b (file_blocks t.disk gone) ≡ occurrence_count b (file_blocks t.disk olds)
  blocks_now disk geometry files b =
      let same = of_olds (λ (s : Slot). SameFileBlocks t.disk disk s.struct) files in
      let kept = k.carries.each (λ (s : Slot). SameFileBlocks t.disk disk s.struct) (λ h. subst (SameFileBlocks t.disk disk) (sym k.struct) h) same in
      let e = ap (occurrence_count b) (slots_files t.disk disk news geometry kept) in
      let f = k.carries.files t.disk b in
      omega arith

  -- where the delta of the global state stays
  pub splicing : k.content.move ≡ p.content.move → IsSplicing t index changes w p l olds news r (file_blocks t.disk gone) []
  splicing move = record {
    ready = k.ready;
    there = k.there;
    place = k.place;
    site = k.site;
    content = k.content;
    made = k.made;
    tail = k.tail;
    move = move;
    was = k.was;
    now = k.now;
    front = λ e. k.front;
    entries = entries_now;
    fit = fit_now;
    flying = tt;
    apart = k.ready.accepted.owned_once;
    lists = λ disk geometry files come. lists_now disk geometry files;
    blocks = λ disk geometry files come b. let e = blocks_now disk geometry files b in omega arith;
  }
