-- The contents after a truncation, and their form.
use Rattle.std.proofs.Common.{ℕ, ◌≡◌, ◌≢◌, ◌+◌, ◌*◌, ◌-◌, ◌<◌, ◌≤◌, ⊎_elim, Bool, true, false, if◌then◌else◌, max, min, List, [], length, take, replicate, sym, ap, ◌∙◌, arith}
use Rattle.std.specs.Prelude.{nat_le, nat_lt, ◌==◌}
use Rattle.lfs_file.proofs.Common.{cases_eq, cases_lt, eq-eqb, ne_eqb, le-leb, lt-leb, append-nil, length-replicate, length-take-le, take_all, skip_list_block_count, written_contents, zero_padded, truncation_room, ContentsForm, InMemory, Finished, InHand, form_size, form_written_within, shortened_form, truncated_form}
use Rattle.std.proofs.lemmas.Bool.{lt-ltb, le-ltb}
use Rattle.std.proofs.Common.{length-append}
use Rattle.lfs_file.proofs.Flights.{at_end, zeros_not}
use Rattle.lfs_file.proofs.ContentsMemories.{shortened_bytes}

-- ---- bytes

filled_to : (size : ℕ) (old : List ℕ) → length (zero_padded size old) ≡ max size (length old)
filled_to size old = omega (arith, length-append old (replicate (size - length old) 0), length-replicate {A = ℕ} (size - length old) 0)

pub length-resized : (size : ℕ) (old : List ℕ) → length (take size (zero_padded size old)) ≡ size
length-resized size old = length-take-le size (zero_padded size old) (omega (arith, filled_to size old))

-- the first bytes, and zeros up to the size
pub resized : (old : List ℕ) (keep size : ℕ) → keep ≡ min (length old) size → written_contents (take keep old) size [] ≡ take size (zero_padded size old)
resized old keep size is =
    let cut : List ℕ = take keep old in
    let long : length cut ≡ keep = length-take-le keep old (omega arith) in
    let front : written_contents cut size [] ≡ zero_padded size cut = at_end cut [] size (omega arith) ∙ append-nil (zero_padded size cut) in
    front ∙ ⊎_elim
    (λ less.
    ap (zero_padded size) (take_all keep old (omega arith)) ∙ sym (take_all size (zero_padded size old) (omega (arith, filled_to size old))))
    (λ ge.
    let e : keep ≡ size = omega arith in
    zeros_not cut size (omega arith) ∙ ap (λ k. take k old) e ∙ shortened_bytes old size ge)
    (cases_lt (length old) size)

-- all of them
pub resized_none : (old : List ℕ) (size : ℕ) → size ≡ length old → old ≡ take size (zero_padded size old)
resized_none old size is = sym (take_all size old (omega arith)) ∙ shortened_bytes old size (omega arith)

-- ---- forms

pub truncated_same : (limit size : ℕ) (form : ContentsForm) → size ≡ form_size form → form ≡ truncated_form limit size form
truncated_same limit size form is =
    sym (ap (λ (t : Bool). if t then form else (if nat_le size limit then InMemory size else (if nat_lt (form_size form) size then form_written_within (form_size form) size form else shortened_form size form))) (eq-eqb size (form_size form) is))

truncated_other : (limit size : ℕ) (form : ContentsForm) → size ≢ form_size form → truncated_form limit size form ≡ (if nat_le size limit then InMemory size else (if nat_lt (form_size form) size then form_written_within (form_size form) size form else shortened_form size form))
truncated_other limit size form ne =
    ap (λ (t : Bool). if t then form else (if nat_le size limit then InMemory size else (if nat_lt (form_size form) size then form_written_within (form_size form) size form else shortened_form size form))) (ne_eqb size (form_size form) ne)

pub truncated_few : (limit size : ℕ) (form : ContentsForm) → size ≢ form_size form → size ≤ limit → InMemory size ≡ truncated_form limit size form
truncated_few limit size form ne few =
    sym (truncated_other limit size form ne ∙ ap (λ (t : Bool). if t then InMemory size else (if nat_lt (form_size form) size then form_written_within (form_size form) size form else shortened_form size form)) (le-leb size limit few))

pub truncated_held : (limit size old : ℕ) → size ≤ limit → InMemory size ≡ truncated_form limit size (InMemory old)
truncated_held limit size old few = ⊎_elim
    (λ same. ap InMemory same ∙ truncated_same limit size (InMemory old) same)
    (λ ne. truncated_few limit size (InMemory old) ne few)
    (cases_eq size old)

truncated_many : (limit size : ℕ) (form : ContentsForm) → size ≢ form_size form → limit < size → truncated_form limit size form ≡ (if nat_lt (form_size form) size then form_written_within (form_size form) size form else shortened_form size form)
truncated_many limit size form ne many =
    truncated_other limit size form ne ∙ ap (λ (t : Bool). if t then InMemory size else (if nat_lt (form_size form) size then form_written_within (form_size form) size form else shortened_form size form)) (lt-leb size limit many)

pub truncated_longer : (limit size : ℕ) (form : ContentsForm) → form_size form < size → limit < size → form_written_within (form_size form) size form ≡ truncated_form limit size form
truncated_longer limit size form more many =
    sym (truncated_many limit size form (omega arith) many ∙ ap (λ (t : Bool). if t then form_written_within (form_size form) size form else shortened_form size form) (lt-ltb (form_size form) size more))

pub truncated_cut : (limit size : ℕ) (form : ContentsForm) → size < form_size form → limit < size → shortened_form size form ≡ truncated_form limit size form
truncated_cut limit size form less many =
    sym (truncated_many limit size form (omega arith) many ∙ ap (λ (t : Bool). if t then form_written_within (form_size form) size form else shortened_form size form) (le-ltb (form_size form) size (omega arith)))

-- contents in hand are ended where they are cut
pub truncated_ended : (limit size end base : ℕ) (flying : Bool) → size < max end base → truncated_form limit size (Finished (max end base) true) ≡ truncated_form limit size (InHand end base flying)
truncated_ended limit size end base flying less = ⊎_elim
    (λ many. sym (truncated_cut limit size (Finished (max end base) true) less many) ∙ truncated_cut limit size (InHand end base flying) less many)
    (λ few. sym (truncated_few limit size (Finished (max end base) true) (omega arith) few) ∙ truncated_few limit size (InHand end base flying) (omega arith) few)
    (cases_lt limit size)

-- contents in hand that grow, by what is made of the list and its base
pub lengthened_hand : (limit end base size : ℕ) (flying : Bool) (now under : ℕ) (waits : Bool) → max end base < size → limit < size → now ≡ size
    → (end ≡ max end base → (under ≡ base) × (waits ≡ flying)) → (end ≢ max end base → (under ≡ max end base) × (waits ≡ true))
    → InHand now under waits ≡ truncated_form limit size (InHand end base flying)
lengthened_hand limit end base size flying now under waits more many is on anew =
    let all = truncated_longer limit size (InHand end base flying) more many in
    ⊎_elim
    (λ same.
    let t : (end == max end base) ≡ true = eq-eqb end (max end base) same in
    ap (λ k. InHand k under waits) is ∙ ap (λ k. InHand size k waits) (on same).0 ∙ ap (InHand size base) (on same).1
    ∙ sym (ap (λ (v : Bool). if v then InHand size base flying else InHand size (max end base) true) t) ∙ all)
    (λ ne.
    let t : (end == max end base) ≡ false = ne_eqb end (max end base) ne in
    ap (λ k. InHand k under waits) is ∙ ap (λ k. InHand size k waits) (anew ne).0 ∙ ap (InHand size (max end base)) (anew ne).1
    ∙ sym (ap (λ (v : Bool). if v then InHand size base flying else InHand size (max end base) true) t) ∙ all)
    (cases_eq end (max end base))

-- ---- room

pub longer_room : (block_size size end base : ℕ) (flying : Bool) → max end base < size
    → truncation_room block_size size (InHand end base flying) ≡ (if end == max end base then skip_list_block_count block_size size + (if flying then skip_list_block_count block_size base else 0) else 2 * skip_list_block_count block_size size)
longer_room block_size size end base flying more =
    ap (λ (t : Bool). if t then (if end == max end base then skip_list_block_count block_size size + (if flying then skip_list_block_count block_size base else 0) else 2 * skip_list_block_count block_size size)
    else (if flying then skip_list_block_count block_size base else 0) + skip_list_block_count block_size base) (lt-ltb (max end base) size more)

pub room_on : (block_size size end base : ℕ) (flying : Bool) → max end base < size → end ≡ max end base → truncation_room block_size size (InHand end base flying) ≡ skip_list_block_count block_size size + (if flying then skip_list_block_count block_size base else 0)
room_on block_size size end base flying more same =
    longer_room block_size size end base flying more
    ∙ ap (λ (t : Bool). if t then skip_list_block_count block_size size + (if flying then skip_list_block_count block_size base else 0) else 2 * skip_list_block_count block_size size) (eq-eqb end (max end base) same)

pub room_anew : (block_size size end base : ℕ) (flying : Bool) → max end base < size → end ≢ max end base → truncation_room block_size size (InHand end base flying) ≡ 2 * skip_list_block_count block_size size
room_anew block_size size end base flying more ne =
    longer_room block_size size end base flying more
    ∙ ap (λ (t : Bool). if t then skip_list_block_count block_size size + (if flying then skip_list_block_count block_size base else 0) else 2 * skip_list_block_count block_size size) (ne_eqb end (max end base) ne)

pub room_shorter : (block_size size end base : ℕ) (flying : Bool) → size < max end base → truncation_room block_size size (InHand end base flying) ≡ (if flying then skip_list_block_count block_size base else 0) + skip_list_block_count block_size base
room_shorter block_size size end base flying less =
    ap (λ (t : Bool). if t then (if end == max end base then skip_list_block_count block_size size + (if flying then skip_list_block_count block_size base else 0) else 2 * skip_list_block_count block_size size)
    else (if flying then skip_list_block_count block_size base else 0) + skip_list_block_count block_size base) (le-ltb (max end base) size (omega arith))
