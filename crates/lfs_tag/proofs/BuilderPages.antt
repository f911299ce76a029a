-- A commit's pages, programmed into a block.
use Rattle.std.proofs.Common.{◌≡◌, ℕ, ◌+◌, ◌-◌, ◌^◌, ◌<◌, ◌≤◌, true, false, ltb, List, [], ◌∷◌, ◌++◌, length, take, drop, bit_xor, Option, Some, None, IfSome, unwrap_or, refl, sym, ap, subst, ◌∙◌, arith, append_assoc, length-append, replicate}
use Rattle.lfs_tag.proofs.Common.{le-ltb, drop-drop, length-take-le, length-replicate, drop-append_seam, tag_for_next_xor, tag_length, LogEntry, with_commit, IsCommit, commit_at, block_entries, is_valid_page_size, overwritten_at, encoded_entries, encoded_size, four_bytes_at, checksum_type, PartialCommit, entries_start, checksum_start, padded_commit_end, checksum_tag, carried_tag, revision_bytes, checksummed_bytes, AreStorableEntries, commit_none, commit_complete, chain_on, chain_none}
use Rattle.std.proofs.lemmas.List.{take-append-drop}
use Rattle.byteorder.specs.Endian.{big_bytes, little_number, little_bytes}
use Rattle.byteorder.specs.Numbers.{little_from-take, little_from-append, little_number-reads_back}
use Rattle.lfs_model.specs.format.Crc.{crc_of}
use Rattle.lfs_model.specs.format.Log.{chain_of, block_revision}
use Rattle.lfs_tag.specs.Builder.{checksum_entry, IsCommitOffset, earlier_commits, AreCommitPages}
use Rattle.lfs_tag.proofs.Local.{appended, next_start}
use Rattle.lfs_tag.proofs.Runs.{all_run, run_space}
use Rattle.lfs_tag.proofs.BuilderWrites.{drop-overwritten, length-overwritten}
use Rattle.lfs_tag.proofs.BuilderEntries.{length-checksummed_bytes}
use Rattle.lfs_tag.proofs.BuilderCommits.{class_of_kind, closing, entries_read}
use Rattle.lfs_tag.proofs.BuilderChecksums.{AreBytes, padded, kind_cases, kind_is, kind_of_cases, valid_is, len_is, nothing_follows}

-- what the pages of a commit are
pub record ArePages (b : PartialCommit) (next : Option (List ℕ)) (pages : List ℕ) (last sum : ℕ) : Type 0 where
  pub power : is_valid_page_size b.page ≡ true
  pub last_is : last ≡ carried_tag b.previous b.entries
  pub revision : IfSome b.revision (λ r. r < 2 ^ 32)
  pub entries : AreStorableEntries b.previous b.entries
  pub bytes : IfSome next AreBytes
  pub fits : bit_xor (checksum_tag b next) last < 2 ^ 32
  pub small : sum < 2 ^ 32
  pub sum_is : sum ≡ crc_of 0xffffffff (checksummed_bytes b ++ big_bytes 4 (bit_xor (checksum_tag b next) last))
  pub pages_are : pages ≡ checksummed_bytes b ++ (big_bytes 4 (bit_xor (checksum_tag b next) last) ++ (little_bytes 4 sum ++ replicate (padded_commit_end b - (checksum_start b + 8)) 255))

length-revision : (r : Option ℕ) → length (revision_bytes r) ≡ entries_start r
length-revision None = refl
length-revision (Some r) = refl

module _ (b : PartialCommit) (next : Option (List ℕ)) (pages : List ℕ) (last sum : ℕ) (h : ArePages b next pages last sum) where
  abbrev tag : ℕ
  tag = checksum_tag b next

  abbrev size : ℕ
  size = padded_commit_end b - checksum_start b - 4

  abbrev tag_bytes : List ℕ
  tag_bytes = big_bytes 4 (bit_xor (checksum_tag b next) last)

  abbrev pad : List ℕ
  pad = replicate (padded_commit_end b - (checksum_start b + 8)) 255

  abbrev ck : LogEntry
  ck = record { tag = checksum_tag b next; bytes = little_bytes 4 sum ++ pad }

  size_small : size < 2 ^ 10
  size_small = let p = padded b h.power in omega (arith, p.low, p.high)

  tag_len : tag_length tag ≡ size
  tag_len = len_is (checksum_type next) size size_small

  pad_len : length pad ≡ padded_commit_end b - (checksum_start b + 8)
  pad_len = let filler : ℕ = 255 in length-replicate (padded_commit_end b - (checksum_start b + 8)) filler

  length-pages : length pages ≡ padded_commit_end b
  length-pages =
      let p = padded b h.power in
      let eight : length (tag_bytes ++ (little_bytes 4 sum ++ pad)) ≡ 8 + length pad = omega arith in
      let all : length pages ≡ length (checksummed_bytes b) + length (tag_bytes ++ (little_bytes 4 sum ++ pad)) = ap length h.pages_are ∙ length-append (checksummed_bytes b) (tag_bytes ++ (little_bytes 4 sum ++ pad)) in
      omega (arith, p.low, length-checksummed_bytes b, all, eight, pad_len)

  -- the entry that the words name
  named : ck ≡ checksum_entry b next pages
  named =
      let from : checksum_start b + 4 ≡ length (checksummed_bytes b ++ tag_bytes) = omega (arith, length-checksummed_bytes b, length-append (checksummed_bytes b) tag_bytes) in
      let rest : drop (checksum_start b + 4) pages ≡ little_bytes 4 sum ++ pad =
      ap (drop (checksum_start b + 4)) (h.pages_are ∙ sym (append_assoc (checksummed_bytes b) tag_bytes (little_bytes 4 sum ++ pad)))
      ∙ ap (λ (n : ℕ). drop n ((checksummed_bytes b ++ tag_bytes) ++ (little_bytes 4 sum ++ pad))) from ∙ drop-append_seam (checksummed_bytes b ++ tag_bytes) (little_bytes 4 sum ++ pad) in
      rw rest refl

  -- what is after the checksum
  padding_is : drop (checksum_start b + 8) pages ≡ pad
  padding_is =
      let front = checksummed_bytes b ++ (tag_bytes ++ little_bytes 4 sum) in
      let joined : pages ≡ front ++ pad = h.pages_are ∙ sym (append_assoc (checksummed_bytes b) (tag_bytes ++ little_bytes 4 sum) pad) in
      let at : checksum_start b + 8 ≡ length front = omega (arith, length-checksummed_bytes b, length-append (checksummed_bytes b) (tag_bytes ++ little_bytes 4 sum)) in
      ap (drop (checksum_start b + 8)) joined ∙ ap (λ (n : ℕ). drop n (front ++ pad)) at ∙ drop-append_seam front pad

  commit_here : (new rest : List ℕ) (start : ℕ) → drop start new ≡ pages ++ rest → IsCommit new start (start + entries_start b.revision) b.previous (b.entries ++ ck ∷ []) (start + length pages) (tag_for_next_xor tag)
  commit_here new rest start here =
      let head = revision_bytes b.revision in
      let es = encoded_entries b.previous b.entries in
      let filled = little_bytes 4 sum ++ pad in
      let p = padded b h.power in
      let first = start + entries_start b.revision in
      let at = first + encoded_size b.entries in
      let whole : drop start new ≡ checksummed_bytes b ++ (tag_bytes ++ (filled ++ rest)) =
      here ∙ ap (λ (l : List ℕ). l ++ rest) h.pages_are ∙ append_assoc (checksummed_bytes b) (tag_bytes ++ filled) rest ∙ ap (λ (l : List ℕ). checksummed_bytes b ++ l) (append_assoc tag_bytes filled rest) in
      let behind : drop first new ≡ es ++ (tag_bytes ++ (filled ++ rest)) =
      ap (λ (n : ℕ). drop (start + n) new) (sym (length-revision b.revision)) ∙ sym (drop-drop (length head) start new)
      ∙ ap (drop (length head)) (whole ∙ append_assoc head es (tag_bytes ++ (filled ++ rest))) ∙ drop-append_seam head (es ++ (tag_bytes ++ (filled ++ rest))) in
      let kind = kind_of_cases (checksum_type next) tag (kind_cases next) (kind_is (checksum_type next) size (kind_cases next) size_small) in
      let closed = closing new (checksummed_bytes b) rest pad start at tag last sum kind (valid_is (checksum_type next) size (kind_cases next) size_small) h.fits h.small
      (omega (arith, tag_len, pad_len, p.low)) (omega (arith, tag_len, p.low, p.high)) (omega (arith, length-checksummed_bytes b)) h.sum_is whole in
      let end : at + 4 + tag_length tag ≡ start + length pages = omega (arith, tag_len, p.low, length-pages) in
      let base : IsCommit new start at (carried_tag b.previous b.entries) (ck ∷ []) (start + length pages) (tag_for_next_xor tag) =
      subst (λ (n : ℕ). IsCommit new start at n (ck ∷ []) (start + length pages) (tag_for_next_xor tag)) h.last_is (subst (λ (n : ℕ). IsCommit new start at last (ck ∷ []) n (tag_for_next_xor tag)) end closed) in
      entries_read new (tag_bytes ++ (filled ++ rest)) start first b.previous b.entries ck (start + length pages) (tag_for_next_xor tag) h.entries behind base

  none_here : (new : List ℕ) (end : ℕ) → four_bytes_at new end ≡ next → commit_at new end end (tag_for_next_xor tag) ≡ None
  none_here new end is = commit_none new end end (tag_for_next_xor tag) (nothing_follows new end size next h.bytes size_small is)

-- ---- in a block

one_more : (commits : List (List LogEntry)) (end : ℕ) → 0 < length commits → next_start commits 0 end ≡ end
one_more [] end some = absurd (omega arith)
one_more (c ∷ cs) end some = refl

-- after the chain of a block
behind_chain : (block pages rest : List ℕ) (at previous : ℕ) (es : List LogEntry) (end last : ℕ) → at ≤ length block → 0 < length (chain_of block).commits → at ≡ (chain_of block).end
    → previous ≡ (chain_of block).last → IsCommit (take at block ++ (pages ++ rest)) at at previous es end last → commit_at (take at block ++ (pages ++ rest)) end end last ≡ None
    → chain_of (take at block ++ (pages ++ rest)) ≡ record { commits = (chain_of block).commits ++ es ∷ []; end = end; last = last }
behind_chain block pages rest at previous es end last within some ends lasts commit none =
    let front = take at block in
    let whole : front ++ drop at block ≡ block = take-append-drop at block in
    let long : length front ≡ at = length-take-le at block within in
    let start : next_start (chain_of block).commits 0 (length front) ≡ at = one_more (chain_of block).commits (length front) some ∙ long in
    let here : IsCommit (front ++ (pages ++ rest)) (next_start (chain_of block).commits 0 (length front)) (length front) (chain_of block).last es end last = rw (start, long, ← lasts) commit in
    let r = appended front (drop at block) (pages ++ rest) es end last (rw whole (sym ends ∙ sym long)) (rw whole here) none in
    rw whole at r

-- at the beginning of a block
at_beginning : (block : List ℕ) (es : List LogEntry) (end last : ℕ) → IsCommit block 0 4 0xffffffff es end last → commit_at block end end last ≡ None
    → chain_of block ≡ record { commits = es ∷ []; end = end; last = last }
unfolding chain_of
at_beginning block es end last commit none =
    chain_on block 0 4 0xffffffff (record { entries = es; end = end; last = last }) (commit_complete block 0 4 0xffffffff es end last commit)
    ∙ ap (with_commit es) (chain_none block end end last none)

module _ (b : PartialCommit) (next : Option (List ℕ)) (pages : List ℕ) (last sum : ℕ) (h : ArePages b next pages last sum) (block : List ℕ) (at : ℕ) (within : at + length pages ≤ length block) where
  abbrev new : List ℕ
  new = overwritten_at block at pages

  abbrev rest : List ℕ
  rest = drop (at + length pages) block

  joined : new ≡ take at block ++ (pages ++ rest)
  joined = append_assoc (take at block) pages rest

  same_len : length new ≡ length block
  same_len = length-overwritten at block pages within

  long : length (take at block) ≡ at
  long = length-take-le at block (omega arith)

  here : drop at new ≡ pages ++ rest
  here =
      ap (drop at) joined ∙ ap (λ (n : ℕ). drop n (take at block ++ (pages ++ rest))) (sym long) ∙ drop-append_seam (take at block) (pages ++ rest)

  same_next : four_bytes_at new (at + length pages) ≡ four_bytes_at block (at + length pages)
  same_next =
      let behind : drop (at + length pages) new ≡ rest = drop-overwritten at (at + length pages) 0 block pages (omega arith) (omega arith) in
      rw (same_len, behind) refl

  log_of : (r : Option ℕ) → entries_start b.revision ≡ entries_start r → IsCommitOffset r b.previous block at → four_bytes_at block (at + length pages) ≡ next
      → chain_of new ≡ record { commits = earlier_commits r block ++ (b.entries ++ ck b next pages last sum h ∷ []) ∷ []; end = at + length pages; last = tag_for_next_xor (checksum_tag b next) }
  log_of None starts goes nexts =
      let es = b.entries ++ ck b next pages last sum h ∷ [] in
      let commit : IsCommit new at at b.previous es (at + length pages) (tag_for_next_xor (checksum_tag b next)) =
      subst (λ (n : ℕ). IsCommit new at n b.previous es (at + length pages) (tag_for_next_xor (checksum_tag b next)))
      (let place : at + entries_start b.revision ≡ at = omega (arith, starts) in place) (commit_here b next pages last sum h new rest at here) in
      let none = none_here b next pages last sum h new (at + length pages) (same_next ∙ nexts) in
      let r = behind_chain block pages rest at b.previous es (at + length pages) (tag_for_next_xor (checksum_tag b next)) (omega arith) goes.0 goes.1 goes.2 (rw joined at commit) (rw joined at none) in
      ap chain_of joined ∙ r
  log_of (Some revision) starts goes nexts =
      let es = b.entries ++ ck b next pages last sum h ∷ [] in
      let commit : IsCommit new 0 4 0xffffffff es (at + length pages) (tag_for_next_xor (checksum_tag b next)) =
      subst (λ (n : ℕ). IsCommit new n 4 0xffffffff es (at + length pages) (tag_for_next_xor (checksum_tag b next))) goes.0
      (subst (λ (n : ℕ). IsCommit new at 4 n es (at + length pages) (tag_for_next_xor (checksum_tag b next))) goes.1
      (subst (λ (n : ℕ). IsCommit new at n b.previous es (at + length pages) (tag_for_next_xor (checksum_tag b next)))
      (let place : at + entries_start b.revision ≡ 4 = omega (arith, starts, goes.0) in place) (commit_here b next pages last sum h new rest at here))) in
      let none = none_here b next pages last sum h new (at + length pages) (same_next ∙ nexts) in
      at_beginning new es (at + length pages) (tag_for_next_xor (checksum_tag b next)) commit none

  revision_is : (r : Option ℕ) → b.revision ≡ r → IsCommitOffset r b.previous block at → block_revision new ≡ unwrap_or r (block_revision block)
  revision_is None is goes =
      let low : 4 ≤ at = omega (arith, goes.1, run_space block 4 0xffffffff (block_entries block) (chain_of block).end (chain_of block).last (all_run block)) in
      let front : little_number 4 (take at block) ≡ little_number 4 block = little_from-take 0 4 at block (omega arith) in
      let number : little_number 4 new ≡ little_number 4 block = ap (little_number 4) joined ∙ little_from-append 4 (take at block) (pages ++ rest) (omega (arith, long)) ∙ front in
      rw (same_len, number) refl
  revision_is (Some r) is goes =
      let small : r < 2 ^ 32 = subst (λ (o : Option ℕ). IfSome o (λ r. r < 2 ^ 32)) is h.revision in
      let first : take at block ≡ [] = ap (λ (n : ℕ). take n block) goes.0 in
      let head : revision_bytes b.revision ≡ little_bytes 4 r = ap revision_bytes is in
      let tail = encoded_entries b.previous b.entries ++ (tag_bytes b next pages last sum h ++ (little_bytes 4 sum ++ pad b next pages last sum h)) in
      let pages_split : pages ≡ little_bytes 4 r ++ tail =
      h.pages_are ∙ append_assoc (revision_bytes b.revision) (encoded_entries b.previous b.entries) (tag_bytes b next pages last sum h ++ (little_bytes 4 sum ++ pad b next pages last sum h))
      ∙ ap (λ (l : List ℕ). l ++ tail) head in
      let split : new ≡ little_bytes 4 r ++ (tail ++ rest) =
      joined ∙ ap (λ (l : List ℕ). l ++ (pages ++ rest)) first ∙ ap (λ (l : List ℕ). l ++ rest) pages_split ∙ append_assoc (little_bytes 4 r) tail rest in
      let p = padded b h.power in
      let some : ltb (length new) 4 ≡ false = le-ltb _ _ (omega (arith, same_len, within, length-pages b next pages last sum h, p.low)) in
      rw some (ap (little_number 4) split ∙ little_number-reads_back 4 r (tail ++ rest) small)

pub committed : (b : PartialCommit) (next : Option (List ℕ)) (pages : List ℕ) (last sum : ℕ) → ArePages b next pages last sum → AreCommitPages b next pages
committed b next pages last sum h =
    let size = padded_commit_end b - checksum_start b - 4 in
    let kind = checksum_type next in
    record {
      log = λ block at goes within nexts.
          subst (λ (e : LogEntry). chain_of (overwritten_at block at pages) ≡ record { commits = earlier_commits b.revision block ++ (b.entries ++ e ∷ []) ∷ []; end = at + length pages; last = tag_for_next_xor (checksum_tag b next) })
          (named b next pages last sum h) (log_of b next pages last sum h block at within b.revision refl goes nexts);
      revision = λ block at goes within. revision_is b next pages last sum h block at within b.revision refl goes;
      class = class_of_kind (checksum_tag b next) (kind_of_cases kind (checksum_tag b next) (kind_cases next) (kind_is kind size (kind_cases next) (size_small b next pages last sum h)));
      padding = padding_is b next pages last sum h;
    }
