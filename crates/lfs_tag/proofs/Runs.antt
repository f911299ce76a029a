-- Entries one after the other, from the front and from the back.
use Rattle.std.proofs.Common.{◌≡◌, ℕ, zero, suc, ◌+◌, ◌-◌, ◌*◌, ◌%◌, ◌^◌, ◌<◌, ◌≤◌, Bool, true, false, cond, ltb, List, [], ◌∷◌, ◌++◌, length, drop, slice_range, Option, Some, None, refl, sym, ap, ◌∙◌, arith}
use Rattle.lfs_tag.proofs.Common.{option_map_or, bit_xor, xor_zero_r, xor_mod, nat_tests, length-append, tag_chunk, tag_data_size, tag_for_next_xor, LogEntry, entry_end, is_checksum_entry, IsCommit, AreAdjacentCommits, block_entries, has_commit, lies, commit_space, chain_sound}
use Rattle.byteorder.specs.Endian.{big_number}
use Rattle.lfs_model.specs.format.Tag.{is_commit_end}
use Rattle.std.specs.List.{flat_map}
use Rattle.lfs_model.specs.format.Log.{entry_at, chain_of, AreEntriesBetween, entries_within, entries_between}
use Rattle.lfs_model.proofs.Checksums.{xor_cancel}

run_zero : (n : ℕ) (block : List ℕ) (at before end : ℕ) → end ≤ at → entries_within n block at before end ≡ []
unfolding entries_within
run_zero zero block at before end le = refl
run_zero (suc n) block at before end le = let done : ltb at end ≡ false = grind (arith, nat_tests) in rw done refl

run_fuel : (n m : ℕ) (block : List ℕ) (at before end : ℕ) → end - at ≤ n → end - at ≤ m → entries_within n block at before end ≡ entries_within m block at before end
unfolding entries_within
run_fuel zero m block at before end p q = sym (run_zero m block at before end (omega arith))
run_fuel (suc n) zero block at before end p q = run_zero (suc n) block at before end (omega arith)
run_fuel (suc n) (suc m) block at before end p q =
    elim (entry_at block at before) as (λ o. step n o ≡ step m o) [
      | None ↦ refl
      | Some e ↦ ap (λ (es : List LogEntry). cond (ltb at end) (e ∷ es) []) (run_fuel n m block (entry_end at e) (tag_for_next_xor e.tag) end (omega arith) (omega arith))
    ]
  where
    step : ℕ → Option LogEntry → List LogEntry
    step k o = cond (ltb at end) (option_map_or (λ e. e ∷ entries_within k block (entry_end at e) (tag_for_next_xor e.tag) end) o []) []

run_more : (block : List ℕ) (at before end : ℕ) → entries_between block at before end ≡ entries_within (suc (end - at)) block at before end
run_more block at before end = run_fuel (end - at) (suc (end - at)) block at before end (omega arith) (omega arith)

pub run_past : (block : List ℕ) (at before end : ℕ) → end ≤ at → entries_between block at before end ≡ []
run_past block at before end le = run_zero (end - at) block at before end le

pub run_none : (block : List ℕ) (at before end : ℕ) → entry_at block at before ≡ None → entries_between block at before end ≡ []
unfolding entries_within
run_none block at before end is = run_more block at before end ∙ rw is (either (ltb at end))
  where
    either : (b : Bool) → cond b (let none : List LogEntry = [] in none) [] ≡ []
    either true = refl
    either false = refl

pub run_on : (block : List ℕ) (at before end : ℕ) (e : LogEntry) → at < end → entry_at block at before ≡ Some e
    → entries_between block at before end ≡ e ∷ entries_between block (entry_end at e) (tag_for_next_xor e.tag) end
unfolding entries_within
run_on block at before end e lt is =
    let inside : ltb at end ≡ true = grind (arith, nat_tests) in
    run_more block at before end ∙ rw (inside, is) (ap (λ (es : List LogEntry). e ∷ es) (run_fuel (end - at) (end - entry_end at e) block (entry_end at e) (tag_for_next_xor e.tag) end (omega arith) (omega arith)))

-- a run ends where it begins, or after
pub run_space : (block : List ℕ) (at before : ℕ) (es : List LogEntry) (end last : ℕ) → AreEntriesBetween block at before es end last → at ≤ end
run_space block at before [] end last h = omega (arith, h.0)
run_space block at before (e ∷ es) end last h = omega (arith, run_space block (entry_end at e) (tag_for_next_xor e.tag) es end last h.1)

-- the one run from a place to another
pub run_is : (block : List ℕ) (at before : ℕ) (es : List LogEntry) (end last : ℕ) → AreEntriesBetween block at before es end last → entries_between block at before end ≡ es
run_is block at before [] end last h = run_past block at before end (omega (arith, h.0))
run_is block at before (e ∷ es) end last h =
    let after = run_space block (entry_end at e) (tag_for_next_xor e.tag) es end last h.1 in
    run_on block at before end e (omega (arith, after)) h.0 ∙ ap (λ (es : List LogEntry). e ∷ es) (run_is block (entry_end at e) (tag_for_next_xor e.tag) es end last h.1)

-- what is left after the first entry
pub run_rest : (block : List ℕ) (at before end last : ℕ) (e : LogEntry) → at < end → entry_at block at before ≡ Some e → AreEntriesBetween block at before (entries_between block at before end) end last
    → AreEntriesBetween block (entry_end at e) (tag_for_next_xor e.tag) (entries_between block (entry_end at e) (tag_for_next_xor e.tag) end) end last
run_rest block at before end last e lt is run = let whole = run_on block at before end e lt is in let r = rw whole at run in r.1

-- ---- from the back

-- the last entry of a run, and the run before it
pub record Ends (block : List ℕ) (at before : ℕ) (es : List LogEntry) (end last : ℕ) : Type 0 where
  pub front : List LogEntry
  pub mid : ℕ
  pub carry : ℕ
  pub entry : LogEntry
  pub run : AreEntriesBetween block at before front mid carry
  pub is : entry_at block mid carry ≡ Some entry
  pub end_is : end ≡ entry_end mid entry
  pub last_is : last ≡ tag_for_next_xor entry.tag
  pub list : es ≡ front ++ entry ∷ []

pub ends : (block : List ℕ) (at before : ℕ) (es : List LogEntry) (end last : ℕ) → AreEntriesBetween block at before es end last → at < end → Ends block at before es end last
ends block at before [] end last h lt = absurd (omega (arith, h.0))
ends block at before (e ∷ []) end last h lt =
    record { front = []; mid = at; carry = before; entry = e; run = (refl, refl); is = h.0; end_is = sym h.1.0; last_is = sym h.1.1; list = refl }
ends block at before (e ∷ f ∷ es) end last h lt =
    let after = run_space block (entry_end (entry_end at e) f) (tag_for_next_xor f.tag) es end last h.1.1 in
    let r = ends block (entry_end at e) (tag_for_next_xor e.tag) (f ∷ es) end last h.1 (omega (arith, after)) in
    record { front = e ∷ r.front; mid = r.mid; carry = r.carry; entry = r.entry; run = (h.0, r.run); is = r.is; end_is = r.end_is; last_is = r.last_is; list = ap (λ (xs : List LogEntry). e ∷ xs) r.list }

-- the tag that carries so
pub carried_mod : (tag : ℕ) → tag < 2 ^ 31 → tag_for_next_xor tag % 2 ^ 31 ≡ tag
carried_mod tag lt = by_class (is_commit_end tag)
  where
    by_class : (b : Bool) → cond b (bit_xor tag (tag_chunk tag % 2 * 2 ^ 31)) tag % 2 ^ 31 ≡ tag
    by_class true =
        let none : tag_chunk tag % 2 * 2 ^ 31 % 2 ^ 31 ≡ 0 = omega arith in
        let low : tag % 2 ^ 31 ≡ tag = omega arith in
        xor_mod tag (tag_chunk tag % 2 * 2 ^ 31) 31 ∙ rw (none, low) (xor_zero_r tag)
    by_class false = omega arith

-- the last entry, by what the code knows: where the run ends and what its last tag carries
pub record Back (block : List ℕ) (at before : ℕ) (es : List LogEntry) (end last : ℕ) : Type 0 where
  pub room : 4 + tag_data_size (last % 2 ^ 31) ≤ end
  pub within : end ≤ length block
  pub ahead : at + 4 + tag_data_size (last % 2 ^ 31) ≤ end
  pub run : (start : ℕ) → start + 4 + tag_data_size (last % 2 ^ 31) ≡ end → AreEntriesBetween block at before (entries_between block at before start) start (bit_xor (big_number 4 (drop start block)) (last % 2 ^ 31))
  pub list : (start : ℕ) → start + 4 + tag_data_size (last % 2 ^ 31) ≡ end → es ≡ entries_between block at before start ++ record { tag = last % 2 ^ 31; bytes = slice_range block (start + 4) end } ∷ []

-- the tag before, from the stored one and this one
before_is : (stored carry tag : ℕ) → tag ≡ bit_xor stored carry → carry ≡ bit_xor stored tag
before_is stored carry tag e = rw e (sym (xor_cancel stored carry))

pub back : (block : List ℕ) (at before : ℕ) (es : List LogEntry) (end last : ℕ) → AreEntriesBetween block at before es end last → at < end → Back block at before es end last
back block at before es end last h lt =
    let r = ends block at before es end last h lt in
    let e = r.entry in
    let l = lies block r.mid r.carry e r.is in
    let tag : last % 2 ^ 31 ≡ e.tag = ap (λ (t : ℕ). t % 2 ^ 31) r.last_is ∙ carried_mod e.tag l.valid in
    let size : tag_data_size (last % 2 ^ 31) ≡ length e.bytes = ap tag_data_size tag ∙ sym l.size in
    let after = run_space block at before r.front r.mid r.carry r.run in
    let mid_of : (start : ℕ) → start + 4 + tag_data_size (last % 2 ^ 31) ≡ end → start ≡ r.mid = λ start is. omega (arith, size, r.end_is, is) in
    let carry_of : r.carry ≡ bit_xor (big_number 4 (drop r.mid block)) (last % 2 ^ 31) = rw tag (before_is (big_number 4 (drop r.mid block)) r.carry e.tag l.tag) in
    let front_is = run_is block at before r.front r.mid r.carry r.run in
    let len : end - (r.mid + 4) ≡ tag_data_size e.tag = omega (arith, l.size, r.end_is) in
    let entry_is : e ≡ record { tag = last % 2 ^ 31; bytes = slice_range block (r.mid + 4) end } = rw (tag, len, ← l.bytes) refl in
    record {
      room = omega (arith, size, r.end_is);
      within = omega (arith, r.end_is, l.within);
      ahead = omega (arith, size, r.end_is, after);
      run = λ start is. rw (mid_of start is) (rw (front_is, ← carry_of) r.run);
      list = λ start is. rw (mid_of start is) (rw (front_is, ← entry_is) r.list);
    }

pub shorter : (xs ys : List LogEntry) (e : LogEntry) → xs ≡ ys ++ e ∷ [] → length ys < length xs
shorter xs ys e h = omega (arith, ap length h, length-append ys (e ∷ []))

-- ---- a chain is a run

IsRun-append : (block : List ℕ) (at before : ℕ) (xs : List LogEntry) (mid carry : ℕ) (ys : List LogEntry) (end last : ℕ) → AreEntriesBetween block at before xs mid carry → AreEntriesBetween block mid carry ys end last → AreEntriesBetween block at before (xs ++ ys) end last
IsRun-append block at before [] mid carry ys end last h k = rw (h.0, h.1) k
IsRun-append block at before (x ∷ xs) mid carry ys end last h k = (h.0, IsRun-append block (entry_end at x) (tag_for_next_xor x.tag) xs mid carry ys end last h.1 k)

carried_other : (e : LogEntry) → is_checksum_entry e ≡ false → tag_for_next_xor e.tag ≡ e.tag
carried_other e other = rw other refl

commit_run : (block : List ℕ) (start at before : ℕ) (es : List LogEntry) (end last : ℕ) → IsCommit block start at before es end last → AreEntriesBetween block at before es end last
commit_run block start at before [] end last h = absurd h
commit_run block start at before (e ∷ []) end last h = (h.0, (sym h.3, sym h.4))
commit_run block start at before (e ∷ f ∷ es) end last h = (h.0, rw (carried_other e h.1) (commit_run block start (entry_end at e) e.tag (f ∷ es) end last h.2))

pub chain_run : (block : List ℕ) (start at before : ℕ) (cs : List (List LogEntry)) (end last : ℕ) → AreAdjacentCommits block start at before cs end last → AreEntriesBetween block at before (flat_map (λ c. c) cs) end last
chain_run block start at before [] end last h = (sym h.0, sym h.1)
chain_run block start at before (c ∷ cs) end last h =
    IsRun-append block at before c h.0 h.1 (flat_map (λ c. c) cs) end last (commit_run block start at before c h.0 h.1 h.2) (chain_run block h.0 h.0 h.1 cs end last h.3)

-- the run of all entries of a block's chain
pub all_run : (block : List ℕ) → AreEntriesBetween block 4 0xffffffff (block_entries block) (chain_of block).end (chain_of block).last
unfolding chain_of
all_run block = chain_run block 0 4 0xffffffff (chain_of block).commits (chain_of block).end (chain_of block).last (chain_sound (length block - 4) block 0 4 0xffffffff)

pub all_is : (block : List ℕ) → entries_between block 4 0xffffffff (chain_of block).end ≡ block_entries block
all_is block = run_is block 4 0xffffffff (block_entries block) (chain_of block).end (chain_of block).last (all_run block)

-- each entry takes four bytes and more
pub run_count : (block : List ℕ) (at before : ℕ) (es : List LogEntry) (end last : ℕ) → AreEntriesBetween block at before es end last → at + 4 * length es ≤ end
run_count block at before [] end last h = omega (arith, h.0)
run_count block at before (e ∷ es) end last h = omega (arith, run_count block (entry_end at e) (tag_for_next_xor e.tag) es end last h.1)

-- there is a commit where the chain goes on past the revision
pub goes_on : (block : List ℕ) → ltb 4 (chain_of block).end ≡ has_commit block
unfolding chain_of
goes_on block =
    let c = chain_of block in
    by_commits c.commits (chain_sound (length block - 4) block 0 4 0xffffffff)
  where
    by_commits : (cs : List (List LogEntry)) → AreAdjacentCommits block 0 4 0xffffffff cs (chain_of block).end (chain_of block).last → ltb 4 (chain_of block).end ≡ ltb 0 (length cs)
    by_commits [] h = rw h.0 refl
    by_commits (c ∷ cs) h =
        let first = commit_space block 0 4 0xffffffff c h.0 h.1 h.2 in
        let rest = run_space block h.0 h.1 (flat_map (λ c. c) cs) (chain_of block).end (chain_of block).last (chain_run block h.0 h.0 h.1 cs (chain_of block).end (chain_of block).last h.3) in
        grind (arith, nat_tests, first.after, rest)
