-- Entries and commits in the front of a block stay when the bytes behind it change.
use Rattle.std.proofs.Common.{◌≡◌, ℕ, ◌+◌, ◌-◌, ◌^◌, ◌<◌, ◌≤◌, Bool, true, false, cond, ltb, leb, List, [], ◌∷◌, ◌++◌, length, take, drop, bit_xor, ◌||◌, ◌/◌, Option, Some, None, refl, sym, ap, subst, ◌∙◌, arith, length-append}
use Rattle.lfs_tag.proofs.Common.{le-ltb, nat_tests, xor_shr, length-drop, tag_data_size, LogEntry, with_commit, tag_at, entry_end, IsCommit, AreAdjacentCommits, commit_at, longest_sequence, lies, commit_none, commit_space, commit_complete, chain_on, chain_none, chain_sound}
use Rattle.std.proofs.lemmas.List.{drop-append-le, take-append-le}
use Rattle.byteorder.specs.Endian.{big_number}
use Rattle.byteorder.specs.Numbers.{big_from-append}
use Rattle.lfs_model.specs.format.Log.{entry_at, closes, chain_of}
use Rattle.lfs_model.proofs.Chains.{Lies}

pub from_lies : (block : List ℕ) (at before : ℕ) (e : LogEntry) → Lies block at before e → entry_at block at before ≡ Some e
unfolding entry_at
from_lies block at before e l =
    let inside : ltb (length block) (at + 4) ≡ false = le-ltb _ _ (omega (arith, l.within)) in
    let valid : leb (2 ^ 31) (tag_at block at before) ≡ false = grind (arith, nat_tests, l.tag, l.valid) in
    let whole : ltb (length block) (at + 4 + tag_data_size (tag_at block at before)) ≡ false = le-ltb _ _ (rw (← l.tag) (omega (arith, l.within, l.size))) in
    rw (inside, valid, whole, ← l.tag, ← l.bytes) refl

tag_of_front : (front x : List ℕ) (at before : ℕ) → at + 4 ≤ length front → tag_at (front ++ x) at before ≡ tag_at front at before
tag_of_front front x at before le =
    let inside : at ≤ length front = omega arith in
    let long : 4 ≤ length (drop at front) = omega (arith, length-drop at front) in
    rw (drop-append-le at front x inside) (ap (λ (n : ℕ). bit_xor n before) (big_from-append 4 (drop at front) x long))

part_of_front : (front x : List ℕ) (n at : ℕ) → at + n ≤ length front → take n (drop at (front ++ x)) ≡ take n (drop at front)
part_of_front front x n at le =
    let inside : at ≤ length front = omega arith in
    let long : n ≤ length (drop at front) = omega (arith, length-drop at front) in
    rw (drop-append-le at front x inside) (take-append-le n (drop at front) x long)

pub lies_on : (front x : List ℕ) (at before : ℕ) (e : LogEntry) → Lies front at before e → Lies (front ++ x) at before e
lies_on front x at before e l = record {
  tag = l.tag ∙ sym (tag_of_front front x at before (omega (arith, l.within)));
  valid = l.valid;
  size = l.size;
  within = omega (arith, l.within, length-append front x);
  bytes = l.bytes ∙ sym (part_of_front front x (tag_data_size e.tag) (at + 4) (omega (arith, l.within, l.size)));
}

pub lies_within : (front x : List ℕ) (at before : ℕ) (e : LogEntry) → entry_end at e ≤ length front → Lies (front ++ x) at before e → Lies front at before e
lies_within front x at before e le l = record {
  tag = l.tag ∙ tag_of_front front x at before (omega arith);
  valid = l.valid;
  size = l.size;
  within = le;
  bytes = l.bytes ∙ part_of_front front x (tag_data_size e.tag) (at + 4) (omega (arith, le, l.size));
}

-- an entry within the front, whatever follows the front
entry_moves : (front x y : List ℕ) (at before : ℕ) (e : LogEntry) → entry_end at e ≤ length front → entry_at (front ++ x) at before ≡ Some e → entry_at (front ++ y) at before ≡ Some e
entry_moves front x y at before e le is = from_lies (front ++ y) at before e (lies_on front y at before e (lies_within front x at before e le (lies (front ++ x) at before e is)))

closes_moves : (front x y : List ℕ) (start at : ℕ) (e : LogEntry) → start ≤ at → at + 4 ≤ length front → closes (front ++ x) start at e ≡ closes (front ++ y) start at e
unfolding closes
closes_moves front x y start at e le within =
    let a = part_of_front front x (at + 4 - start) start (omega arith) in
    let b = part_of_front front y (at + 4 - start) start (omega arith) in
    rw (a, b) refl

commit_moves : (front x y : List ℕ) (start at before : ℕ) (es : List LogEntry) (end last : ℕ) → start ≤ at → end ≤ length front → IsCommit (front ++ x) start at before es end last → IsCommit (front ++ y) start at before es end last
commit_moves front x y start at before [] end last le within h = absurd h
commit_moves front x y start at before (e ∷ []) end last le within h =
    (entry_moves front x y at before e (omega (arith, h.3, within)) h.0, h.1, sym (closes_moves front x y start at e le (omega (arith, h.3, within))) ∙ h.2, h.3, h.4)
commit_moves front x y start at before (e ∷ f ∷ es) end last le within h =
    let w = commit_space (front ++ x) start (entry_end at e) e.tag (f ∷ es) end last h.2 in
    (entry_moves front x y at before e (omega (arith, w.after, within)) h.0, h.1, commit_moves front x y start (entry_end at e) e.tag (f ∷ es) end last (omega arith) within h.2)

chain_space : (block : List ℕ) (start at before : ℕ) (cs : List (List LogEntry)) (end last : ℕ) → AreAdjacentCommits block start at before cs end last → at ≤ end
chain_space block start at before [] end last h = omega (arith, h.0)
chain_space block start at before (c ∷ cs) end last h =
    let w = commit_space block start at before c h.0 h.1 h.2 in
    omega (arith, w.after, chain_space block h.0 h.0 h.1 cs end last h.3)

pub chain_moves : (front x y : List ℕ) (start at before : ℕ) (cs : List (List LogEntry)) (end last : ℕ) → start ≤ at → end ≤ length front → AreAdjacentCommits (front ++ x) start at before cs end last → AreAdjacentCommits (front ++ y) start at before cs end last
chain_moves front x y start at before [] end last le within h = h
chain_moves front x y start at before (c ∷ cs) end last le within h =
    let after = chain_space (front ++ x) h.0 h.0 h.1 cs end last h.3 in
    (h.0, h.1, commit_moves front x y start at before c h.0 h.1 le (omega (arith, after, within)) h.2, chain_moves front x y h.0 h.0 h.1 cs end last (omega arith) within h.3)

-- ---- one commit more

-- where the next commit begins: after the chain, or where the chain would
abbrev pub next_start : List (List LogEntry) → ℕ → ℕ → ℕ
next_start [] start end = start
next_start (c ∷ cs) start end = end

chain_more : (block : List ℕ) (start at before : ℕ) (cs : List (List LogEntry)) (end last : ℕ) (es : List LogEntry) (end' last' : ℕ) → AreAdjacentCommits block start at before cs end last
    → IsCommit block (next_start cs start end) end last es end' last' → AreAdjacentCommits block start at before (cs ++ es ∷ []) end' last'
chain_more block start at before [] end last es end' last' h k = (end', last', rw (← h.0, ← h.1) k, (refl, refl))
chain_more block start at before (c ∷ []) end last es end' last' h k =
    (h.0, h.1, h.2, chain_more block h.0 h.0 h.1 [] end last es end' last' h.3 (rw (← h.3.0) k))
chain_more block start at before (c ∷ d ∷ cs) end last es end' last' h k =
    (h.0, h.1, h.2, chain_more block h.0 h.0 h.1 (d ∷ cs) end last es end' last' h.3 k)

-- a chain that nothing follows is the computed one
pub chain_is : (block : List ℕ) (start at before : ℕ) (cs : List (List LogEntry)) (end last : ℕ) → AreAdjacentCommits block start at before cs end last
    → commit_at block (next_start cs start end) end last ≡ None → longest_sequence block start at before ≡ record { commits = cs; end = end; last = last }
chain_is block start at before [] end last h none = chain_none block start at before (rw (h.0, h.1) at none) ∙ rw (h.0, h.1) refl
chain_is block start at before (c ∷ []) end last h none =
    chain_on block start at before (record { entries = c; end = h.0; last = h.1 }) (commit_complete block start at before c h.0 h.1 h.2)
    ∙ ap (with_commit c) (chain_is block h.0 h.0 h.1 [] end last h.3 (subst (λ (s : ℕ). commit_at block s end last ≡ None) h.3.0 none))
chain_is block start at before (c ∷ d ∷ cs) end last h none =
    chain_on block start at before (record { entries = c; end = h.0; last = h.1 }) (commit_complete block start at before c h.0 h.1 h.2)
    ∙ ap (with_commit c) (chain_is block h.0 h.0 h.1 (d ∷ cs) end last h.3 none)

-- one commit more, after a chain that ends at the end of the front
pub appended : (front x y : List ℕ) (es : List LogEntry) (end last : ℕ) → (chain_of (front ++ x)).end ≡ length front
    → IsCommit (front ++ y) (next_start (chain_of (front ++ x)).commits 0 (length front)) (length front) (chain_of (front ++ x)).last es end last
    → commit_at (front ++ y) end end last ≡ None
    → chain_of (front ++ y) ≡ record { commits = (chain_of (front ++ x)).commits ++ es ∷ []; end = end; last = last }
unfolding chain_of
appended front x y es end last ends commit none =
    let old = chain_of (front ++ x) in
    let was : AreAdjacentCommits (front ++ x) 0 4 0xffffffff old.commits old.end old.last = chain_sound (length (front ++ x) - 4) (front ++ x) 0 4 0xffffffff in
    let kept = chain_moves front x y 0 4 0xffffffff old.commits old.end old.last (omega arith) (omega (arith, ends)) was in
    let here : IsCommit (front ++ y) (next_start old.commits 0 old.end) old.end old.last es end last = rw ends commit in
    let whole = chain_more (front ++ y) 0 4 0xffffffff old.commits old.end old.last es end last kept here in
    chain_is (front ++ y) 0 4 0xffffffff (old.commits ++ es ∷ []) end last whole (rw (start_is old.commits) none)
  where
    start_is : (cs : List (List LogEntry)) → next_start (cs ++ es ∷ []) 0 end ≡ end
    start_is [] = refl
    start_is (c ∷ cs) = refl

-- ---- erased bytes

-- what follows a chain is no entry where its first four bytes are erased, and the last tag carries a valid one
pub erased_none : (block : List ℕ) (start at before : ℕ) → before < 2 ^ 31 → big_number 4 (drop at block) ≡ 0xffffffff → commit_at block start at before ≡ None
unfolding entry_at
erased_none block start at before lt erased =
    let high : bit_xor 0xffffffff before / 2 ^ 31 ≡ 1 = xor_shr 0xffffffff before 31 ∙ (let e : before / 2 ^ 31 ≡ 0 = omega arith in rw e refl) in
    let invalid : leb (2 ^ 31) (tag_at block at before) ≡ true = rw erased (grind (arith, nat_tests, high)) in
    commit_none block start at before (rw invalid (either (ltb (length block) (at + 4)) (Some (record { tag = tag_at block at before; bytes = take (tag_data_size (tag_at block at before)) (drop (at + 4) block) }))))
  where
    either : (b : Bool) (o : Option LogEntry) → cond (b || (true || ltb (length block) (at + 4 + tag_data_size (tag_at block at before)))) None o ≡ None
    either true o = refl
    either false o = refl
