-- What a log comes to after one commit more.
use Rattle.std.proofs.Common.{ℕ, ◌≡◌, ◌==◌, true, List, [], ◌∷◌, ◌++◌, Some, flat_map, refl, ap, ◌∙◌, eq-eqb}
use Rattle.lfs_model.proofs.Common.{append-nil, flat_map-append, tag_class, LogEntry, block_entries, RawContent, content_after, empty_raw_content}
use Rattle.lfs_model.specs.format.Log.{chain_of}
use Rattle.lfs_model.proofs.WrittenAnew.{then}

-- a checksum changes nothing
pub checksum_stays : (c : RawContent) (e : LogEntry) → tag_class e.tag ≡ 5 → content_after c (e ∷ []) ≡ Some c
checksum_stays c e k = let five : tag_class e.tag == 5 ≡ true = eq-eqb (tag_class e.tag) 5 k in rw five refl

-- these entries after earlier commits
pub appended_content : (block : List ℕ) (cs : List (List LogEntry)) (es : List LogEntry) (checksum : LogEntry) (held after : RawContent)
    → (chain_of block).commits ≡ cs ++ (es ++ checksum ∷ []) ∷ [] → tag_class checksum.tag ≡ 5
    → content_after empty_raw_content (flat_map (λ c. c) cs) ≡ Some held → content_after held es ≡ Some after → content_after empty_raw_content (block_entries block) ≡ Some after
appended_content block cs es checksum held after are five so_far more =
    ap (λ (ds : List (List LogEntry)). content_after empty_raw_content (flat_map (λ c. c) ds)) are
    ∙ ap (content_after empty_raw_content) (flat_map-append (λ (c : List LogEntry). c) cs ((es ++ checksum ∷ []) ∷ []) ∙ ap (λ z. flat_map (λ (c : List LogEntry). c) cs ++ z) (append-nil (es ++ checksum ∷ [])))
    ∙ then empty_raw_content held (flat_map (λ c. c) cs) (es ++ checksum ∷ []) (Some after) so_far
    (then held after es (checksum ∷ []) (Some after) more (checksum_stays after checksum five))
