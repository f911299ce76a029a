-- The descriptions by headers of the directories' pairs are right.
use Rattle.std.proofs.Common.{ℕ, zero, suc, ◌≡◌, ◌<◌, Bool, true, false, cond, not, nat_eq, List, [], ◌∷◌, ◌++◌, length, drop, Some, refl, sym, ap, subst, ◌∙◌, arith, slice_get, drop_at, get_or}
use Rattle.std.specs.Prelude.{Contains}
use Rattle.std.specs.List.{IsDistinct}
use Rattle.lfs_mount.proofs.Common.{drop-map, distinct_right, slice_get-get_or, AreInFlight, AreUsed, BlockState, BlockStates, Free, InFlight, Used, Disk, block_count, content_at, CallEvent, Gstate, IsThread, ThreadDirectory, Pair, pairs_blocks, pair_directories, pairs_gstate, is_hard_tail, directories_with_pair, begins_with_superblock, count_before_root, unmoved_entries, all_directories, Contains-occurrence_count, occurrence_count-Contains, pairs_behind, header_address, AreHeaders, PairHeader, header_pairs, ArePairDescriptions, IsPairDescription, HasSuperblockChainLength, HasExactlyUsedBlocks, AreThreadDirectories, IsThreadRead, IsHeaderThread, directory_start_addresses_of, header_tail_hard, header_descriptions, directory_addresses}
use Rattle.lfs_mount.specs.Members.{description_of_header}
use Rattle.lfs_mount.proofs.Accepts.{starts_so}
use Rattle.lfs_mount.proofs.Begins.{begins_distinct}
use Rattle.lfs_mount.proofs.Headers.{pair_of, seen_from}
use Rattle.lfs_mount.proofs.Owned.{counted_place, placed_count}

-- ---- members

member_is : (disk : Disk) (history : List CallEvent) (g : Gstate) (first : Bool) (h : PairHeader) → AreHeaders disk history (h ∷ []) → (first ≡ true → begins_with_superblock (pair_of disk h).content.slots ≡ true)
    → IsPairDescription disk g first (pair_of disk h) (description_of_header g first h)
member_is disk history g first h are starts =
    let s = seen_from disk history h are.0 in
    record { at = refl; content = s.content; within = s.active; active = s.holds; hard = s.hard; first = refl; starts = starts; moved = refl }

members_are : (disk : Disk) (history : List CallEvent) (g : Gstate) (hs : List PairHeader) → AreHeaders disk history hs → ArePairDescriptions disk g false (header_pairs disk hs) (header_descriptions g false hs)
members_are disk history g [] are = tt
members_are disk history g (h ∷ hs) are = (member_is disk history g false h (are.0, tt) (λ e. absurd (cc)), members_are disk history g hs are.1)

abbrev Starts : List Pair → Type 0
Starts [] = Unit {0}
Starts (p ∷ ps) = begins_with_superblock p.content.slots ≡ true

described : (disk : Disk) (history : List CallEvent) (g : Gstate) (hs : List PairHeader) → AreHeaders disk history hs → Starts (header_pairs disk hs) → ArePairDescriptions disk g true (header_pairs disk hs) (header_descriptions g true hs)
described disk history g [] are starts = tt
described disk history g (h ∷ hs) are starts = (member_is disk history g true h (are.0, tt) (λ e. starts), members_are disk history g hs are.1)

headers_drop : (disk : Disk) (history : List CallEvent) (n : ℕ) (hs : List PairHeader) → AreHeaders disk history hs → AreHeaders disk history (drop n hs)
headers_drop disk history zero hs are = are
headers_drop disk history (suc n) [] are = tt
headers_drop disk history (suc n) (h ∷ hs) are = headers_drop disk history n hs are.1

-- ---- the first pairs of directories

abbrev begins_of : Bool → List Pair → List (ℕ × ℕ)
begins_of begins [] = []
begins_of begins (p ∷ ps) = cond begins (p.at ∷ begins_of (not (is_hard_tail p.content.tail)) ps) (begins_of (not (is_hard_tail p.content.tail)) ps)

begins_seen : (disk : Disk) (history : List CallEvent) (begins : Bool) (hs : List PairHeader) → AreHeaders disk history hs → directory_start_addresses_of begins hs ≡ begins_of begins (header_pairs disk hs)
begins_seen disk history begins [] are = refl
begins_seen disk history begins (h ∷ hs) are =
    let next = begins_seen disk history (not (header_tail_hard h)) hs are.1 ∙ ap (λ (b : Bool). begins_of (not b) (header_pairs disk hs)) (seen_from disk history h are.0).hard in
    ap (λ (xs : List (ℕ × ℕ)). cond begins (header_address h ∷ xs) xs) next

begins_listed : (g : Gstate) (ps : List Pair) → directory_addresses (pair_directories g ps) ≡ begins_of true ps
begins_listed g [] = refl
begins_listed g (p ∷ []) = refl
begins_listed g (p ∷ q ∷ qs) = go (is_hard_tail p.content.tail) (pair_directories g (q ∷ qs)) (begins_listed g (q ∷ qs))
  where
    more : List (ℕ × ℕ)
    more = begins_of (not (is_hard_tail q.content.tail)) qs

    go : (hard : Bool) (ds : List ThreadDirectory) → directory_addresses ds ≡ q.at ∷ more → directory_addresses (directories_with_pair p.at hard (unmoved_entries g p) ds) ≡ p.at ∷ begins_of (not hard) (q ∷ qs)
    go hard [] e = absurd (cc)
    go true (d ∷ ds) e = ap (λ (xs : List (ℕ × ℕ)). p.at ∷ drop 1 xs) e
    go false (d ∷ ds) e = ap (λ (xs : List (ℕ × ℕ)). p.at ∷ xs) e

-- ---- the map

owns_from : (sets : BlockStates) (bs : List ℕ) → IsDistinct nat_eq bs → AreUsed sets bs → AreInFlight sets [] → HasExactlyUsedBlocks sets bs
owns_from sets bs distinct used none = record {
  distinct = distinct;
  used = λ i b e. (used b).1 (Contains-occurrence_count bs b (placed_count b bs i e));
  free = λ b within apart. state b apart (get_or sets b Free) (slice_get-get_or sets b Free within);
}
  where
    nowhere : (b : ℕ) → ((i : ℕ) → slice_get bs i ≡ Some b → ⊥) → Contains bs b → ⊥
    nowhere b apart has = let i = counted_place b bs (occurrence_count-Contains bs b has) in apart i.0 i.1

    state : (b : ℕ) → ((i : ℕ) → slice_get bs i ≡ Some b → ⊥) → (s : BlockState) → slice_get sets b ≡ Some s → slice_get sets b ≡ Some Free
    state b apart Free e = e
    state b apart InFlight e = absurd (let c = (none b).0 e in let below : c.0 < 0 = c.1 in omega arith)
    state b apart Used e = absurd (nowhere b apart ((used b).0 e))

-- ---- the thread

module _ (disk : Disk) (history : List CallEvent) (hs : List PairHeader) (sets : BlockStates) (g : Gstate) (count : ℕ) (r : IsThreadRead disk history hs sets g) (head : HasSuperblockChainLength disk (header_pairs disk hs) count) where
  abbrev dirs : List PairHeader
  dirs = drop count hs

  behind : head.p ∷ head.rest ≡ header_pairs disk dirs
  behind = sym (ap (drop count) head.parts ∙ drop_at head.chain (head.p ∷ head.rest) count head.chain_is) ∙ drop-map (pair_of disk) count hs

  are : AreHeaders disk history dirs
  are = headers_drop disk history count hs r.kept.each

  starts : Starts (header_pairs disk dirs)
  starts = subst Starts behind (starts_so disk.profile.versions head.bytes head.p.content.slots head.head.start)

  chain_behind : count_before_root (head.chain ++ head.p ∷ head.rest) ≡ length head.chain
  chain_behind = ap count_before_root (sym head.parts) ∙ head.before ∙ sym head.chain_is

  places : directory_start_addresses_of true dirs ≡ directory_addresses (all_directories (head.chain ++ head.p ∷ head.rest))
  places =
      begins_seen disk history true dirs are ∙ ap (begins_of true) (sym behind)
      ∙ sym (begins_listed (pairs_gstate (head.chain ++ head.p ∷ head.rest)) (head.p ∷ head.rest))
      ∙ ap (λ (qs : List Pair). directory_addresses (pair_directories (pairs_gstate (head.chain ++ head.p ∷ head.rest)) qs)) (sym (pairs_behind head.chain (head.p ∷ head.rest) chain_behind))

  global : g ≡ pairs_gstate (head.chain ++ head.p ∷ head.rest)
  global = r.global ∙ ap pairs_gstate head.parts

  pub known_thread : IsHeaderThread disk sets g dirs head.chain head.p head.rest
  known_thread = record {
    thread = subst (IsThread (content_at disk) (block_count disk)) head.parts r.thread;
    chain_is = chain_behind;
    sets_len = r.kept.size;
    owns = subst (λ qs. HasExactlyUsedBlocks sets (pairs_blocks qs)) head.parts (owns_from sets (pairs_blocks (header_pairs disk hs)) r.kept.distinct r.used r.none_in_flight);
    described = subst (λ qs. ArePairDescriptions disk (pairs_gstate (head.chain ++ head.p ∷ head.rest)) true qs (header_descriptions g true dirs)) (sym behind)
        (subst (λ s. ArePairDescriptions disk s true (header_pairs disk dirs) (header_descriptions g true dirs)) global (described disk history g dirs are starts));
    places = places;
    sync_is = ap (λ (s : Gstate). s.sync) (sym global);
  }

  pub directories_are : AreThreadDirectories disk sets g dirs
  directories_are = record {
    apart = begins_distinct disk dirs (subst (λ qs. IsDistinct nat_eq (pairs_blocks qs)) behind (distinct_right head.chain (head.p ∷ head.rest) (subst (λ qs. IsDistinct nat_eq (pairs_blocks qs)) head.parts r.kept.distinct)));
    known = (head.chain, head.p, head.rest, known_thread);
  }
