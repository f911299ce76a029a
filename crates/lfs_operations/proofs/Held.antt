-- The content of a pair of an accepted image, as its log has it.
use Rattle.lfs_model.specs.declared.limits.AcceptedVersions.{AcceptedVersions}
use Rattle.lfs_operations.proofs.Common.{ℕ, ◌≡◌, ◌+◌, ◌<◌, false, take, drop, List, [], ◌∷◌, ◌++◌, length, Option, Some, None, refl, sym, ap, subst, ◌∙◌, arith, append_assoc, length-append, get_or, block_entries, logged, recursion_from_All, RawContent, raw_content, content_after, content_at, decoded_content, current_block, empty_raw_content, Disk, IsDirectoryPair, PairContent, FitsInPair, Slot, is_superblock, BeginsWithSuperblock, IsAccepted, IsFileOrDirectory, take-append-drop, Pair, count_before_root, Each, each_append, each_right, each_weaker, KeptThread, thread_pair, empty_anchor, option_and_then, slice_index, All, IsLogContentDecodable, IsRecoveredWritableImage}

-- a content that is complete comes of one that is there
pub record CompletesTo (o : Option RawContent) (c : PairContent) : Type 0 where
  pub raw : RawContent
  pub is : o ≡ Some raw
  pub complete : decoded_content raw ≡ Some c

pub completes_to : (o : Option RawContent) (c : PairContent) → option_and_then decoded_content o ≡ Some c → CompletesTo o c
completes_to None c h = absurd (cc)
completes_to (Some raw) c h = record { raw = raw; is = refl; complete = h }

get_behind : (xs : List Pair) (p : Pair) (zs : List Pair) (n : ℕ) (d : Pair) → length xs ≡ n → get_or (xs ++ p ∷ zs) n d ≡ p
get_behind [] p zs n d e = ap (λ (k : ℕ). get_or (p ∷ zs) k d) (sym e)
get_behind (x ∷ xs) p zs n d e = ap (λ (k : ℕ). get_or (x ∷ (xs ++ p ∷ zs)) k d) (sym e) ∙ get_behind xs p zs (length xs) d refl

-- ---- entries

-- each slot but a superblock's
abbrev pub IsEntryIfOther : Slot → Type 0
IsEntryIfOther s = is_superblock s ≡ false → IsFileOrDirectory s

headed_entries : (versions : AcceptedVersions) (bytes : List ℕ) (slots : List Slot) → BeginsWithSuperblock versions bytes slots → Each IsEntryIfOther slots
headed_entries versions bytes [] h = tt
headed_entries versions bytes (s ∷ slots) h = ((λ e. absurd (let z = sym e ∙ h.0 in cc)), each_weaker IsFileOrDirectory IsEntryIfOther (λ x k e. k) slots (recursion_from_All IsFileOrDirectory slots h.2))

pub other_entries : (disk : Disk) (ps : List Pair) → IsAccepted disk ps → Each (λ p. Each IsEntryIfOther p.content.slots) ps
other_entries disk ps ok = subst (Each (λ p. Each IsEntryIfOther p.content.slots)) (take-append-drop (count_before_root ps + 1) ps)
    (each_append (λ p. Each IsEntryIfOther p.content.slots) (take (count_before_root ps + 1) ps) (drop (count_before_root ps + 1) ps)
    (each_weaker (λ (p : Pair). BeginsWithSuperblock disk.profile.versions ok.superblock.0 p.content.slots) (λ (p : Pair). Each IsEntryIfOther p.content.slots) (λ p h. headed_entries disk.profile.versions ok.superblock.0 p.content.slots h)
    (take (count_before_root ps + 1) ps) (recursion_from_All (λ (p : Pair). BeginsWithSuperblock disk.profile.versions ok.superblock.0 p.content.slots) (take (count_before_root ps + 1) ps) ok.superblock.1.1))
    (each_weaker (λ (p : Pair). All IsFileOrDirectory p.content.slots) (λ (p : Pair). Each IsEntryIfOther p.content.slots)
    (λ p h. each_weaker IsFileOrDirectory IsEntryIfOther (λ x k e. k) p.content.slots (recursion_from_All IsFileOrDirectory p.content.slots h)) (drop (count_before_root ps + 1) ps)
    (recursion_from_All (λ (p : Pair). All IsFileOrDirectory p.content.slots) (drop (count_before_root ps + 1) ps) ok.slots)))

-- ---- the pair of a place

module _ (t : KeptThread) (ready : IsRecoveredWritableImage t) (first index : ℕ) (p : Pair) (rest : List Pair) (place : IsDirectoryPair t.pairs first index p rest) where
  parts : t.pairs ≡ (place.front ++ place.left) ++ p ∷ rest
  parts = place.parts ∙ sym (append_assoc place.front place.left (p ∷ rest))

  pub here : thread_pair t index ≡ p
  here = ap (λ (z : List Pair). get_or z index empty_anchor) parts
      ∙ get_behind (place.front ++ place.left) p rest index empty_anchor (let l = length-append place.front place.left in let n = place.number in omega arith)

  pub below : index < length t.pairs
  below = let e = ap length parts in let l = length-append (place.front ++ place.left) (p ∷ rest) in let m = length-append place.front place.left in let n = place.number in omega arith

  pub each_pair : (P : Pair → Type 0) → Each P t.pairs → P p
  each_pair P h = (each_right P (place.front ++ place.left) (p ∷ rest) (subst (Each P) parts h)).0

  pub holds : content_at t.disk (thread_pair t index).at ≡ Some p.content
  holds = ap (λ (z : Pair). content_at t.disk z.at) here
      ∙ each_pair (λ (x : Pair). content_at t.disk x.at ≡ Some x.content) (recursion_from_All (λ (x : Pair). content_at t.disk x.at ≡ Some x.content) t.pairs ready.accepted.thread.contents)

  pub fits_there : FitsInPair t.disk.block_size t.disk.page p.content
  fits_there = each_pair (λ (x : Pair). FitsInPair t.disk.block_size t.disk.page x.content)
      (recursion_from_All (λ (x : Pair). FitsInPair t.disk.block_size t.disk.page x.content) t.pairs ready.writable.pairs)

  pub raw_there : CompletesTo (raw_content t.disk (thread_pair t index).at) p.content
  raw_there = completes_to (raw_content t.disk (thread_pair t index).at) p.content holds

-- a log of bytes comes to what a log can come to
pub logged_at : (disk : Disk) (at : ℕ × ℕ) (block : List ℕ) → current_block disk at ≡ Some block → ((i : ℕ) → slice_index block i < 256) → IsLogContentDecodable disk at
logged_at disk at block holds bytes raw is = logged block raw bytes (sym (ap (λ o. option_and_then (λ b. content_after empty_raw_content (block_entries b)) o) holds) ∙ is)
