-- The global state, and the deltas of pairs.
use Rattle.std.proofs.Common.{ℕ, ◌≡◌, ◌+◌, ◌<◌, List, [], ◌∷◌, ◌++◌, length, map, take, get_or, refl, sym, ap, ap₂, ◌∙◌, add-one}
use Rattle.lfs_thread.proofs.Common.{fold, map-append, Disk, CallEvent, Gstate, gstate_xor, zero_gstate, Pair, pairs_gstate, completed_parts, move_view, header_address, PairHeader, AreHeaders, IsHeader, disk_pair_at, header_pairs}
use Rattle.std.proofs.Math.Seq.{take-suc}
use Rattle.std.proofs.lemmas.List.Sums.{fold-append}
use Rattle.lfs_thread.proofs.Keeping.{header_content, pair_on_content}

abbrev delta_of : PairHeader → Gstate
delta_of h = move_view h.move_state

-- one more
pub joined_more : (hs : List PairHeader) (k : ℕ) (h : PairHeader) → k < length hs → h ≡ get_or hs k h
    → fold gstate_xor zero_gstate (map (λ (p : PairHeader). move_view p.move_state) (take (k + 1) hs)) ≡ gstate_xor (fold gstate_xor zero_gstate (map (λ (p : PairHeader). move_view p.move_state) (take k hs))) (move_view h.move_state)
joined_more hs k h below is =
    ap (λ (n : ℕ). fold gstate_xor zero_gstate (map delta_of (take n hs))) (add-one k)
    ∙ ap (λ (xs : List PairHeader). fold gstate_xor zero_gstate (map delta_of xs)) (take-suc hs k h below ∙ ap (λ (x : PairHeader). take k hs ++ x ∷ []) (sym is))
    ∙ ap (fold gstate_xor zero_gstate) (map-append delta_of (take k hs) (h ∷ []))
    ∙ fold-append gstate_xor zero_gstate (map delta_of (take k hs)) (delta_of h ∷ [])

delta_is : (disk : Disk) (history : List CallEvent) (h : PairHeader) → IsHeader disk history h → delta_of h ≡ (disk_pair_at disk (header_address h)).content.move
delta_is disk history h is =
    is.is_pair.describes.sums.move ∙ sym (completed_parts is.held is.content is.complete).move
    ∙ sym (ap (λ (p : Pair). p.content.move) (pair_on_content disk (header_address h) is.content (header_content disk history h is)))

deltas_are : (disk : Disk) (history : List CallEvent) (hs : List PairHeader) → AreHeaders disk history hs → map delta_of hs ≡ map (λ (p : Pair). p.content.move) (header_pairs disk hs)
deltas_are disk history [] are = refl
deltas_are disk history (h ∷ hs) are = ap₂ (λ (g : Gstate) (gs : List Gstate). g ∷ gs) (delta_is disk history h are.0) (deltas_are disk history hs are.1)

-- the XOR of the deltas in the headers is the global state of the pairs
pub state_is : (disk : Disk) (history : List CallEvent) (hs : List PairHeader) → AreHeaders disk history hs → fold gstate_xor zero_gstate (map (λ (p : PairHeader). move_view p.move_state) hs) ≡ pairs_gstate (header_pairs disk hs)
state_is disk history hs are = ap (fold gstate_xor zero_gstate) (deltas_are disk history hs are)
