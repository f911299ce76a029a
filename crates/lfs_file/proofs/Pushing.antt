-- The blocks passed to an extender, used one after the other.
use Rattle.std.proofs.Common.{ℕ, false, suc, ◌≡◌, ◌≢◌, ◌+◌, ◌-◌, ◌<◌, ◌≤◌, ⊎_elim, nat_eq, get_or, List, [], ◌∷◌, ◌++◌, length, take, slice_index, refl, sym, ap, subst, ◌∙◌, arith, append_assoc, length-append}
use Rattle.std.specs.Prelude.{All}
use Rattle.std.specs.List.{IsDistinct}
use Rattle.lfs_file.proofs.Common.{cases_lt, eqb-false, append-nil, get_or_append_left, get_or-take, length-take-le, take_more, get_or_default, All-cons, All-nil, apart_from_distinct, Blocks, CallEvent, OthersStayUnprogrammed, OthersStayUnprogrammed-trans, block_capacity, blocks_to_head, skip_list_block_count, GrowingList, unwritten_rest_block, rest_block, rest_lacks_block, lacks_last_block, unwritten_block, lasting_blocks, growing_blocks, growing_size_with, block_for_push, IsRestAt, DiskHasList}
use Rattle.std.proofs.lemmas.List.{get_or-append-add}
use Rattle.lfs_model.proofs.Histories.{OthersStayUnprogrammed-wider}
use Rattle.lfs_file.specs.declared.rest.RestLocation.{RestLocation}
use Rattle.lfs_file.specs.declared.rest.RestLocation.TheVariants.{Closed, Shared, Handed, Held}
use Rattle.lfs_file.proofs.Sizes.{skip_list_block_count-above, skip_list_block_count-within}
use Rattle.lfs_file.proofs.Chains.{length_back}

-- one of the blocks is written
pub stays_one : (bs : List ℕ) (block : ℕ) (old mid new : List CallEvent) → ((other : ℕ) → All (λ b. b ≢ other) bs → block ≢ other) → OthersStayUnprogrammed bs old mid → OthersStayUnprogrammed (block ∷ []) mid new → OthersStayUnprogrammed bs old new
stays_one bs block old mid new among first second =
    OthersStayUnprogrammed-trans first (OthersStayUnprogrammed-wider bs (λ other apart. All-cons (λ b. b ≢ other) block [] (among other apart) (All-nil (λ b. b ≢ other))) second)

-- one of those handed in is among them
pub among_handed : (pending blocks : List ℕ) (used : ℕ) → used < length blocks → (other : ℕ) → All (λ b. b ≢ other) (pending ++ blocks) → slice_index blocks used ≢ other
among_handed pending blocks used lt other apart is =
    apart (length pending + used) 0 (omega (arith, length-append pending blocks)) (get_or-append-add pending blocks used 0 ∙ is)

-- the block that takes the next bytes is among them
pub next_among : (t : RestLocation) (handed pending blocks : List ℕ) (used : ℕ) → handed ≡ pending ++ blocks → (unwritten_rest_block t ≡ [] → used < length blocks)
    → ((other : ℕ) → All (λ b. b ≢ other) handed → All (λ b. b ≢ other) (unwritten_rest_block t)) → (other : ℕ) → All (λ b. b ≢ other) handed → (block_for_push t blocks used).0 ≢ other
next_among Closed handed pending blocks used is some among other apart = among_handed pending blocks used (some refl) other (subst (All (λ b. b ≢ other)) is apart)
next_among (Shared b) handed pending blocks used is some among other apart = among_handed pending blocks used (some refl) other (subst (All (λ b. b ≢ other)) is apart)
next_among (Handed b) handed pending blocks used is some among other apart = among other apart 0 0 (omega arith)
next_among Held handed pending blocks used is some among other apart = among_handed pending blocks used (some refl) other (subst (All (λ b. b ≢ other)) is apart)

-- and it is none of the full blocks
apart_before : (back front blocks : List ℕ) (used : ℕ) → used < length blocks → back ≡ front ++ take used blocks → IsDistinct nat_eq blocks → All (λ b. All (λ c. c ≢ b) front) blocks
    → All (λ c. c ≢ slice_index blocks used) back
apart_before back front blocks used lt is distinct apart k x l e =
    let len = length-take-le used blocks (omega arith) in
    let all : length back ≡ length front + used = omega (arith, ap length is, length-append front (take used blocks)) in
    ⊎_elim
    (λ low. apart used 0 lt k x low (sym (get_or_append_left front (take used blocks) x k low) ∙ ap (λ (xs : List ℕ). get_or xs k x) (sym is) ∙ e))
    (λ high.
    let i : ℕ = k - length front in
    let at : length front + i ≡ k = omega arith in
    let there : get_or back k x ≡ get_or blocks i x =
    ap (λ (xs : List ℕ). get_or xs k x) is ∙ ap (λ n. get_or (front ++ take used blocks) n x) (sym at) ∙ get_or-append-add front (take used blocks) i x ∙ get_or-take used blocks i x (omega arith) in
    eqb-false (get_or blocks i x) (get_or blocks used x) (apart_from_distinct nat_eq blocks i used x distinct (omega arith) lt) (sym there ∙ e ∙ get_or_default blocks used 0 x lt))
    (cases_lt k (length front))

pub next_apart : (d : Blocks) (full head : ℕ) (rest : List ℕ) (t : RestLocation) (front blocks : List ℕ) (used : ℕ) → IsRestAt d full head rest t → (unwritten_rest_block t ≡ [] → used < length blocks)
    → blocks_to_head d full head ++ unwritten_rest_block t ≡ front ++ take used blocks → IsDistinct nat_eq blocks → All (λ b. All (λ c. c ≢ b) front) blocks → All (λ c. c ≢ (block_for_push t blocks used).0) (blocks_to_head d full head)
next_apart d full head rest Closed front blocks used stand some is distinct apart = apart_before (blocks_to_head d full head) front blocks used (some refl) (sym (append-nil (blocks_to_head d full head)) ∙ is) distinct apart
next_apart d full head rest (Shared b) front blocks used stand some is distinct apart =
    apart_before (blocks_to_head d full head) front blocks used (some refl) (sym (append-nil (blocks_to_head d full head)) ∙ is) distinct apart
next_apart d full head rest (Handed b) front blocks used stand some is distinct apart = stand.apart
next_apart d full head rest Held front blocks used stand some is distinct apart =
    apart_before (blocks_to_head d full head) front blocks used (some refl) (sym (append-nil (blocks_to_head d full head)) ∙ is) distinct apart

-- and it is on the device
pub next_inside : (d : Blocks) (full head : ℕ) (rest : List ℕ) (t : RestLocation) (blocks : List ℕ) (used n : ℕ) → length d ≡ n → IsRestAt d full head rest t → (unwritten_rest_block t ≡ [] → used < length blocks) → All (λ b. b < n) blocks
    → (block_for_push t blocks used).0 < n
next_inside d full head rest Closed blocks used n count stand some inside = inside used 0 (some refl)
next_inside d full head rest (Shared b) blocks used n count stand some inside = inside used 0 (some refl)
next_inside d full head rest (Handed b) blocks used n count stand some inside = omega (arith, stand.in_range, count)
next_inside d full head rest Held blocks used n count stand some inside = inside used 0 (some refl)

pub next_some : (t : RestLocation) (blocks : List ℕ) (used : ℕ) → (unwritten_rest_block t ≡ [] → used < length blocks) → used ≤ length blocks → (block_for_push t blocks used).1 ≤ length blocks
next_some Closed blocks used some le = let lt = some refl in omega arith
next_some (Shared b) blocks used some le = let lt = some refl in omega arith
next_some (Handed b) blocks used some le = le
next_some Held blocks used some le = let lt = some refl in omega arith

one_used : (back front blocks : List ℕ) (used : ℕ) → used < length blocks → back ++ [] ≡ front ++ take used blocks → back ++ slice_index blocks used ∷ [] ≡ front ++ take (used + 1) blocks
one_used back front blocks used lt is =
    ap (λ (l : List ℕ). l ++ slice_index blocks used ∷ []) (sym (append-nil back) ∙ is)
    ∙ append_assoc front (take used blocks) (slice_index blocks used ∷ [])
    ∙ ap (λ (l : List ℕ). front ++ l) (sym (take_more blocks used 0 lt))

pub next_kept : (t : RestLocation) (back front blocks : List ℕ) (used : ℕ) → (unwritten_rest_block t ≡ [] → used < length blocks) → back ++ unwritten_rest_block t ≡ front ++ take used blocks
    → back ++ (block_for_push t blocks used).0 ∷ [] ≡ front ++ take (block_for_push t blocks used).1 blocks
next_kept Closed back front blocks used some is = one_used back front blocks used (some refl) is
next_kept (Shared b) back front blocks used some is = one_used back front blocks used (some refl) is
next_kept (Handed b) back front blocks used some is = is
next_kept Held back front blocks used some is = one_used back front blocks used (some refl) is

-- ---- how many are used

-- the full blocks and the pending one
pub kept_count : (d e : Blocks) (was now : GrowingList) (blocks : List ℕ) (used : ℕ) → used ≤ length blocks → lasting_blocks e now ≡ lasting_blocks d was ++ take used blocks
    → now.full + length (unwritten_block now) ≡ was.full + length (unwritten_block was) + used
kept_count d e was now blocks used le is =
    omega (
      arith,
      ap length is,
      length-append (blocks_to_head e now.full now.head) (unwritten_block now),
      length-append (blocks_to_head d was.full was.head) (unwritten_block was),
      length-append (lasting_blocks d was) (take used blocks),
      length_back e now.full now.head,
      length_back d was.full was.head,
      length-take-le used blocks le,
    )

-- while bytes are left and no block is pending there is one to take
pub still_some : (d e : Blocks) (block_size : ℕ) (was now : GrowingList) (blocks : List ℕ) (used done total : ℕ) → 1024 ≤ block_size → used ≤ length blocks → lasting_blocks e now ≡ lasting_blocks d was ++ take used blocks
    → length blocks ≡ skip_list_block_count block_size (growing_size_with block_size was + total) - (was.full + length (unwritten_block was)) → growing_size_with block_size now ≡ growing_size_with block_size was + done → done < total → unwritten_block now ≡ [] → used < length blocks
still_some d e block_size was now blocks used done total large le is count sum less none =
    let counted = kept_count d e was now blocks used le is in
    let more = skip_list_block_count-above block_size (growing_size_with block_size was + total) now.full large (omega arith) in
    omega (arith, counted, more, count, ap length none)

-- at the end all are used
size_fits : (d : Blocks) (block_size : ℕ) (g : GrowingList) → 1024 ≤ block_size → DiskHasList d g → length g.rest < block_capacity block_size g.full → growing_blocks d g ≡ lasting_blocks d g → rest_lacks_block g ≡ false
    → skip_list_block_count block_size (growing_size_with block_size g) ≤ g.full + length (unwritten_block g)
size_fits d block_size g large held short own listed = go g.stand held.stand listed own
  where
    go : (t : RestLocation) → IsRestAt d g.full g.head g.rest t → lacks_last_block t ≡ false → blocks_to_head d g.full g.head ++ rest_block t ≡ blocks_to_head d g.full g.head ++ unwritten_rest_block t
        → skip_list_block_count block_size (growing_size_with block_size g) ≤ g.full + length (unwritten_rest_block t)
    go Closed none out e = let w = skip_list_block_count-within block_size (growing_size_with block_size g) g.full large (omega (arith, ap length none)) in omega arith
    go (Shared b) shared out e =
        absurd (omega (arith, ap length e, length-append (blocks_to_head d g.full g.head) (b ∷ []), length-append (blocks_to_head d g.full g.head) []))
    go (Handed b) handed out e = let w = skip_list_block_count-within block_size (growing_size_with block_size g) (suc g.full) large (omega arith) in omega arith
    go Held none out e = absurd (cc)

pub all_used : (d e : Blocks) (block_size : ℕ) (was now : GrowingList) (blocks : List ℕ) (used total : ℕ) → 1024 ≤ block_size → used ≤ length blocks → lasting_blocks e now ≡ lasting_blocks d was ++ take used blocks
    → length blocks ≡ skip_list_block_count block_size (growing_size_with block_size was + total) - (was.full + length (unwritten_block was)) → growing_size_with block_size now ≡ growing_size_with block_size was + total → DiskHasList e now → length now.rest < block_capacity block_size now.full → growing_blocks e now ≡ lasting_blocks e now
    → rest_lacks_block now ≡ false → length blocks ≤ used
all_used d e block_size was now blocks used total large le is count sum held short own listed =
    let counted = kept_count d e was now blocks used le is in
    let fits = size_fits e block_size now large held short own listed in
    omega (arith, counted, fits, count, ap (skip_list_block_count block_size) sum)
