-- Contents that differ from the stored ones in a dirty range, while they are written and cut.
use Rattle.std.proofs.Common.{ℕ, ◌≡◌, ◌+◌, ◌-◌, ◌<◌, ◌≤◌, min, max, true, false, cond, nat_lt, List, [], ◌++◌, length, take, drop, replicate, Option, Some, None, sym, ap, ap₂, subst, ◌∙◌, arith}
use Rattle.std.specs.Prelude.{◌⊎◌}
use Rattle.std.proofs.Common.{inl, inr}
use Rattle.std.proofs.lemmas.List.{length-take, length-drop, length-append, length-replicate, take-append-drop, take_all, take-take, take-append-le, drop-drop, drop_at, drop_all, drop-take, length-take-le}
use Rattle.std.proofs.lemmas.Bool.{cases_lt, le-ltb, lt-ltb}
use Rattle.lfs_model.specs.session.Writers.{written_contents, zero_padded}
use Rattle.lfs_volume.specs.declared.dirty_range.DirtyRange.{DirtyRange}
use Rattle.lfs_volume.specs.DirtyRanges.{DiffersInDirtyRange, DiffersOnlyWithinRange, truncate_dirty_range, extend_dirty_range}

-- ---- a larger dirty range

-- Bytes that begin like the old ones up to the new dirty range, and go on like them behind it.
pub record GoesOn (now new : List ℕ) (from end : ℕ) : Type 0 where
  pub front : take from new ≡ take from now
  pub back : drop end new ≡ drop end now
  pub lengths : (length new ≡ length now) ⊎ ((length now ≤ end) × (length new ≤ end))

same_front : (stored now : List ℕ) (m n : ℕ) → m ≤ n → take n stored ≡ take n now → take m stored ≡ take m now
same_front stored now m n le e = sym (take-take m n stored le) ∙ ap (take m) e ∙ take-take m n now le

same_back : (stored now : List ℕ) (m n : ℕ) → m ≤ n → drop m stored ≡ drop m now → drop n stored ≡ drop n now
same_back stored now m n le e =
    let at : m + (n - m) ≡ n = omega arith in
    sym (ap (λ k. drop k stored) at) ∙ sym (drop-drop (n - m) m stored) ∙ ap (drop (n - m)) e ∙ drop-drop (n - m) m now ∙ ap (λ k. drop k now) at

pub grown : (stored now new : List ℕ) (h : DirtyRange) (from end : ℕ) → DiffersOnlyWithinRange stored now h → from ≤ h.from → h.end ≤ end → from ≤ end → end ≤ length new → GoesOn now new from end → DiffersOnlyWithinRange stored new (record { from = from; end = end })
grown stored now new h from end d lower higher order inside g = record {
  order = order;
  inside = inside;
  begins = (let b = d.begins in omega arith);
  before = same_front stored now from h.from lower d.before ∙ sym g.front;
  behind = behind g.lengths;
}
  where
    behind : (length new ≡ length now) ⊎ ((length now ≤ end) × (length new ≤ end)) → drop end (take (length new) stored) ≡ drop end new
    behind (inl e) = ap (λ n. drop end (take n stored)) e ∙ same_back (take (length now) stored) now h.end end higher d.behind ∙ sym g.back
    behind (inr (x, y)) =
        let short : length (take (length new) stored) ≤ end = (let l = length-take (length new) stored in omega arith) in
        drop_all end (take (length new) stored) short ∙ sym (drop_all end new y)

-- what isn't changed differs within an empty dirty range, anywhere
pub none_differs : (stored now : List ℕ) (at : ℕ) → stored ≡ now → at ≤ length now → DiffersOnlyWithinRange stored now (record { from = at; end = at })
none_differs stored now at e inside = record {
  order = omega arith;
  inside = inside;
  begins = (let k = ap length e in omega arith);
  before = ap (take at) e;
  behind = ap (drop at) (ap (take (length now)) e ∙ take_all (length now) now (omega arith));
}

-- ---- a write

module _ (now bytes : List ℕ) (at : ℕ) where
  -- how long they are
  pub length-padded : length (zero_padded at now) ≡ max at (length now)
  length-padded = (let a : length (zero_padded at now) ≡ length now + length (replicate {A = ℕ} (at - length now) 0) = length-append now (replicate (at - length now) 0) in let b : length (replicate {A = ℕ} (at - length now) 0) ≡ at - length now = length-replicate (at - length now) 0 in omega arith)

  length-front : length (take at (zero_padded at now)) ≡ at
  length-front = length-take-le at (zero_padded at now) (let a = length-padded in omega arith)

  length-both : length (take at (zero_padded at now) ++ bytes) ≡ at + length bytes
  length-both = length-append (take at (zero_padded at now)) bytes ∙ ap (λ n. n + length bytes) length-front

  pub length-written : length (written_contents now at bytes) ≡ max (length now) (at + length bytes)
  length-written =
      let a = length-append (take at (zero_padded at now) ++ bytes) (drop (at + length bytes) now) in
      let b = length-both in
      let c = length-drop (at + length bytes) now in
      omega arith

  written_front : (m : ℕ) → m ≤ at → m ≤ length now → take m (written_contents now at bytes) ≡ take m now
  written_front m below inside =
      let short : m ≤ length (take at (zero_padded at now) ++ bytes) = (let k = length-both in omega arith) in
      let first : m ≤ length (take at (zero_padded at now)) = (let k = length-front in omega arith) in
      take-append-le m (take at (zero_padded at now) ++ bytes) (drop (at + length bytes) now) short
      ∙ take-append-le m (take at (zero_padded at now)) bytes first ∙ take-take m at (zero_padded at now) below ∙ take-append-le m now (replicate (at - length now) 0) inside

  written_back : (n : ℕ) → at + length bytes ≤ n → drop n (written_contents now at bytes) ≡ drop n now
  written_back n above =
      same_back (written_contents now at bytes) now (at + length bytes) n above (drop_at (take at (zero_padded at now) ++ bytes) (drop (at + length bytes) now) (at + length bytes) length-both)

pub written_differs : (stored now bytes : List ℕ) (dirty_range : Option DirtyRange) (at : ℕ) → DiffersInDirtyRange stored now dirty_range → DiffersInDirtyRange stored (written_contents now at bytes) (Some (extend_dirty_range dirty_range (min at (length now)) (at + length bytes)))
written_differs stored now bytes dirty_range at d = go dirty_range d
  where
    by : (h : DirtyRange) (from end : ℕ) → DiffersOnlyWithinRange stored now h → from ≤ h.from → h.end ≤ end → from ≤ at → from ≤ length now → at + length bytes ≤ end → end ≤ max (length now) (at + length bytes) → from ≤ end → DiffersOnlyWithinRange stored (written_contents now at bytes) (record { from = from; end = end })
    by h from end k lower higher below inside above most order =
        let len = length-written now bytes at in
        grown stored now (written_contents now at bytes) h from end k lower higher order (omega arith) (record {
          front = written_front now bytes at from below inside;
          back = written_back now bytes at end above;
          lengths = lengths (cases_lt (length now) (at + length bytes));
        })
      where
        lengths : (length now < at + length bytes) ⊎ (at + length bytes ≤ length now) → (length (written_contents now at bytes) ≡ length now) ⊎ ((length now ≤ end) × (length (written_contents now at bytes) ≤ end))
        lengths (inl lt) = inr (omega arith, (let len = length-written now bytes at in omega arith))
        lengths (inr le) = inl (let len = length-written now bytes at in omega arith)

    go : (o : Option DirtyRange) → DiffersInDirtyRange stored now o → DiffersOnlyWithinRange stored (written_contents now at bytes) (extend_dirty_range o (min at (length now)) (at + length bytes))
    go None e = by (record { from = min at (length now); end = min at (length now) }) (min at (length now)) (at + length bytes) (none_differs stored now (min at (length now)) e (omega arith)) (omega arith) (omega arith) (omega arith) (omega arith) (omega arith) (omega arith) (omega arith)
    go (Some h) k = by h (min h.from (min at (length now))) (max h.end (at + length bytes)) k (omega arith) (omega arith) (omega arith) (omega arith) (omega arith) (let i = k.inside in omega arith) (let i = k.inside in let j = k.order in omega arith)

-- ---- another size

-- zeros at the end
pub lengthened : (stored now : List ℕ) (dirty_range : Option DirtyRange) (size : ℕ) → length now < size → DiffersInDirtyRange stored now dirty_range → DiffersInDirtyRange stored (take size (zero_padded size now)) (Some (extend_dirty_range dirty_range (length now) size))
lengthened stored now dirty_range size more d =
    let len : length (take size (zero_padded size now)) ≡ size = length-take-le size (zero_padded size now) (let a = length-padded now [] size in omega arith) in
    let goes : (from : ℕ) → from ≤ length now → GoesOn now (take size (zero_padded size now)) from size = λ from inside. record {
      front = take-take from size (zero_padded size now) (omega arith) ∙ take-append-le from now (replicate (size - length now) 0) inside;
      back = drop_all size (take size (zero_padded size now)) (omega arith) ∙ sym (drop_all size now (omega arith));
      lengths = inr (omega arith, omega arith);
    } in
    go len goes dirty_range d
  where
    go : length (take size (zero_padded size now)) ≡ size → ((from : ℕ) → from ≤ length now → GoesOn now (take size (zero_padded size now)) from size) → (o : Option DirtyRange) → DiffersInDirtyRange stored now o → DiffersOnlyWithinRange stored (take size (zero_padded size now)) (extend_dirty_range o (length now) size)
    go len goes None e = grown stored now (take size (zero_padded size now)) (record { from = length now; end = length now }) (length now) size (none_differs stored now (length now) e (omega arith)) (omega arith) (omega arith) (omega arith) (omega arith) (goes (length now) (omega arith))
    go len goes (Some h) k =
        let i = k.inside in
        let j = k.order in
        subst (λ (n : ℕ). DiffersOnlyWithinRange stored (take size (zero_padded size now)) (record { from = min h.from (length now); end = n })) (let m : size ≡ max h.end size = omega arith in m)
        (grown stored now (take size (zero_padded size now)) h (min h.from (length now)) size k (omega arith) (omega arith) (omega arith) (omega arith) (goes (min h.from (length now)) (omega arith)))

-- a cut
pub shortened : (stored now : List ℕ) (dirty_range : Option DirtyRange) (size : ℕ) → size ≤ length now → DiffersInDirtyRange stored now dirty_range → DiffersInDirtyRange stored (take size now) (Some (truncate_dirty_range dirty_range size))
shortened stored now dirty_range size less d = go dirty_range d
  where
    len : length (take size now) ≡ size
    len = length-take-le size now less

    by : (h : DirtyRange) → DiffersOnlyWithinRange stored now h → DiffersOnlyWithinRange stored (take size now) (record { from = min h.from size; end = min h.end size })
    by h k = record {
      order = (let j = k.order in omega arith);
      inside = (let l = len in omega arith);
      begins = (let b = k.begins in omega arith);
      before = same_front stored now (min h.from size) h.from (omega arith) k.before ∙ sym (take-take (min h.from size) size now (omega arith));
      behind = ap (λ n. drop (min h.end size) (take n stored)) len ∙ behind (cases_lt h.end size);
    }
      where
        behind : (h.end < size) ⊎ (size ≤ h.end) → drop (min h.end size) (take size stored) ≡ drop (min h.end size) (take size now)
        behind (inl lt) =
            let at : h.end + (size - h.end) ≡ size = omega arith in
            let m : min h.end size ≡ h.end = omega arith in
            let one = drop-take h.end (size - h.end) (take (length now) stored) in
            let two = drop-take h.end (size - h.end) now in
            ap (λ n. drop n (take size stored)) m ∙ ap (drop h.end) (sym (take-take size (length now) stored less)) ∙ ap (λ n. drop h.end (take n (take (length now) stored))) (sym at) ∙ one ∙ ap (take (size - h.end)) k.behind
            ∙ sym two ∙ ap (λ n. drop h.end (take n now)) at ∙ ap (λ n. drop n (take size now)) (sym m)
        behind (inr le) =
            let m : min h.end size ≡ size = omega arith in
            ap (λ n. drop n (take size stored)) m ∙ drop_all size (take size stored) (let l = length-take size stored in omega arith)
            ∙ sym (drop_all size (take size now) (let l = length-take size now in omega arith)) ∙ ap (λ n. drop n (take size now)) (sym m)

    go : (o : Option DirtyRange) → DiffersInDirtyRange stored now o → DiffersOnlyWithinRange stored (take size now) (truncate_dirty_range o size)
    go None e = subst (λ (n : ℕ). DiffersOnlyWithinRange stored (take size now) (record { from = n; end = n })) (let m : min size size ≡ size = omega arith in m) (by (record { from = size; end = size }) (none_differs stored now size e less))
    go (Some h) k = by h k

-- ---- a save

more : (n m : ℕ) → n < m → nat_lt n m ≡ true
more n m lt = lt-ltb n m lt

less : (n m : ℕ) → m ≤ n → nat_lt n m ≡ false
less n m le = le-ltb n m le

-- the stored bytes, cut to the new length where that is shorter
pub cut_stored : (stored now : List ℕ) → cond (nat_lt (length now) (length stored)) (take (length now) stored) stored ≡ take (length now) stored
cut_stored stored now = go (cases_lt (length now) (length stored))
  where
    go : (length now < length stored) ⊎ (length stored ≤ length now) → cond (nat_lt (length now) (length stored)) (take (length now) stored) stored ≡ take (length now) stored
    go (inl lt) = ap (λ b. cond b (take (length now) stored) stored) (more (length now) (length stored) lt)
    go (inr le) = ap (λ b. cond b (take (length now) stored) stored) (less (length now) (length stored) le) ∙ sym (take_all (length now) stored le)

-- written in the dirty range, they are the new ones
pub dirty_range_written : (stored now : List ℕ) (h : DirtyRange) → DiffersOnlyWithinRange stored now h → written_contents (take (length now) stored) h.from (take (h.end - h.from) (drop h.from now)) ≡ now
dirty_range_written stored now h d =
    ap₂ (λ x y. (x ++ part) ++ y) front back ∙ ap (λ x. x ++ drop h.end now) two ∙ take-append-drop h.end now
  where
    part : List ℕ
    part = take (h.end - h.from) (drop h.from now)

    cut : List ℕ
    cut = take (length now) stored

    inside : h.from ≤ length (take (length now) stored)
    inside = (let a = length-take (length now) stored in let b = d.begins in let c = d.order in let e = d.inside in omega arith)

    front : take h.from (zero_padded h.from (take (length now) stored)) ≡ take h.from now
    front = take-append-le h.from (take (length now) stored) (replicate (h.from - length (take (length now) stored)) 0) inside ∙ take-take h.from (length now) stored (let c = d.order in let e = d.inside in omega arith) ∙ d.before

    at : h.from + length (take (h.end - h.from) (drop h.from now)) ≡ h.end
    at = (let a = length-take (h.end - h.from) (drop h.from now) in let b = length-drop h.from now in let c = d.order in let e = d.inside in omega arith)

    back : drop (h.from + length (take (h.end - h.from) (drop h.from now))) (take (length now) stored) ≡ drop h.end now
    back = ap (λ n. drop n (take (length now) stored)) at ∙ d.behind

    two : take h.from now ++ take (h.end - h.from) (drop h.from now) ≡ take h.end now
    two = sym (ap₂ (λ x y. x ++ y) (take-take h.from h.end now d.order) (let s : h.from + (h.end - h.from) ≡ h.end = (let c = d.order in omega arith) in sym (ap (λ n. drop h.from (take n now)) s) ∙ drop-take h.from (h.end - h.from) now)) ∙ take-append-drop h.from (take h.end now)

-- an empty dirty range: the cut alone makes them the same
pub nothing_written : (stored now : List ℕ) (h : DirtyRange) → DiffersOnlyWithinRange stored now h → take (h.end - h.from) (drop h.from now) ≡ [] → take (length now) stored ≡ now
nothing_written stored now h d none =
    sym (take-append-drop h.from (take (length now) stored)) ∙ ap₂ (λ x y. x ++ y) (take-take h.from (length now) stored (let c = d.order in let e = d.inside in omega arith) ∙ d.before) back ∙ take-append-drop h.from now
  where
    same : h.end ≡ h.from
    same =
        let a = length-take (h.end - h.from) (drop h.from now) in
        let b = length-drop h.from now in
        let c = d.order in
        let e = d.inside in
        let z : length (take (h.end - h.from) (drop h.from now)) ≡ 0 = ap length none in
        omega arith

    back : drop h.from (take (length now) stored) ≡ drop h.from now
    back = sym (ap (λ n. drop n (take (length now) stored)) same) ∙ d.behind ∙ ap (λ n. drop n now) same
