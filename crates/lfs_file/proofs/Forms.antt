-- Each call of a writer leaves its contents in the form that is stated, and the blocks that it reserves are enough.
use Rattle.std.proofs.Common.{ℕ, ◌≡◌, ◌≢◌, ◌+◌, ◌*◌, ◌-◌, ◌<◌, ◌≤◌, ⊎_elim, Bool, true, false, not, if◌then◌else◌, max, min, List, ◌∷◌, ◌++◌, length, take, drop, replicate, Option, Some, None, is_some, refl, sym, ap, ◌∙◌, subst, arith, length-append, length-drop}
use Rattle.std.specs.Prelude.{nat_le, nat_lt, ◌==◌, ◌||◌}
use Rattle.lfs_file.proofs.Common.{eqb-true, eqb-false, ltb-true, ne_eqb, eq-eqb, cases_eq, lt-leb, le-leb, length-take, length-replicate, inline_limit, skip_list_block_count, FileWriter, reserved_for_writer, writer_after_write, truncated_writer, written_contents, write_position, zero_padded, ContentsForm, InMemory, Finished, InHand, form_size, form_written_within, shortened_form, written_form, truncated_form, IsWriterForm, skip_list_block_count-more}
use Rattle.std.proofs.lemmas.Bool.{or_left, or_right, leb-true, leb-false, ltb-false}
use Rattle.lfs_model.specs.declared.limits.Profile.{Profile}
use Rattle.lfs_model.specs.session.Session.{file_block_count}
use Rattle.lfs_model.specs.session.Writers.{synced_writer, opened_writer, turns_writer}
use Rattle.lfs_model.specs.session.Operations.{FlagsOfOpen}
use Rattle.lfs_model.specs.tree.Tree.{Path}
use Rattle.lfs_file.specs.Form.{form_in_flight, synced_form}

length-zeros_to : (n : ℕ) (bytes : List ℕ) → length (zero_padded n bytes) ≡ max n (length bytes)
length-zeros_to n bytes = omega (arith, length-append bytes (replicate (n - length bytes) 0), length-replicate {A = ℕ} (n - length bytes) 0)

pub length-written : (old : List ℕ) (at : ℕ) (bytes : List ℕ) → length (written_contents old at bytes) ≡ max (length old) (at + length bytes)
length-written old at bytes =
    let front : length (take at (zero_padded at old)) ≡ at = omega (arith, length-take at (zero_padded at old), length-zeros_to at old) in
    omega (arith, front, length-append (take at (zero_padded at old) ++ bytes) (drop (at + length bytes) old), length-append (take at (zero_padded at old)) bytes, length-drop (at + length bytes) old)

-- one form or another
either : (profile : Profile) (block_size : ℕ) (t : Bool) (a b : ContentsForm) (w : FileWriter) → (t ≡ true → IsWriterForm profile block_size a w) → (t ≡ false → IsWriterForm profile block_size b w) → IsWriterForm profile block_size (if t then a else b) w
either profile block_size true a b w first second = first refl
either profile block_size false a b w first second = second refl

-- what a call that grows the contents makes of a writer
record Grew (w v : FileWriter) (begin stop : ℕ) : Type 0 where
  dirty : v.dirty ≡ true
  stays : w.turned ≡ true → v.turned ≡ true
  turns : (end : ℕ) → w.turned ≡ false → w.last_end ≡ Some end → end ≢ begin → v.turned ≡ true
  last_end : v.last_end ≡ Some stop
  size : length v.contents ≡ max (length w.contents) stop

turned_or : (t : Bool) (P : Type 0) → (t ≡ true → P) → (t ≡ false → P) → P
turned_or true P first second = first refl
turned_or false P first second = second refl

kept_grown : (profile : Profile) (block_size : ℕ) (w v : FileWriter) (begin stop : ℕ) → Grew w v begin stop → inline_limit profile block_size < length v.contents → begin ≤ stop → (form : ContentsForm) → IsWriterForm profile block_size form w → IsWriterForm profile block_size (form_written_within begin stop form) v
kept_grown profile block_size w v begin stop grew large le (InMemory size) kept =
    let few : size ≤ inline_limit profile block_size = kept.fits in
    let is : size ≡ length w.contents = kept.size in
    let long = grew.size in
    record {
      size = omega arith;
      fits = record {
        dirty = grew.dirty;
        large = omega arith;
        turned = λ e. absurd (cc);
        at_end = λ e. grew.last_end;
      };
    }
kept_grown profile block_size w v begin stop grew large le (Finished size flying) kept =
    let is : size ≡ length w.contents = kept.size in
    let long = grew.size in
    record {
      size = omega arith;
      fits = record {
        dirty = grew.dirty;
        large = omega arith;
        turned = λ e. grew.stays (kept.fits.turned e);
        at_end = λ e. grew.last_end;
      };
    }
kept_grown profile block_size w v begin stop grew large le (InHand end base flying) kept =
    let is : max end base ≡ length w.contents = kept.size in
    let long = grew.size in
    either profile block_size (end == begin) (InHand stop base flying) (InHand stop (max end base) true) v
    (λ same.
    let e : end ≡ begin = eqb-true end begin same in
    record {
      size = omega arith;
      fits = record {
        dirty = grew.dirty;
        large = omega arith;
        turned = λ t. grew.stays (kept.fits.turned t);
        at_end = λ t. grew.last_end;
      };
    })
    (λ differs.
    let ne : end ≢ begin = eqb-false end begin differs in
    record {
      size = omega arith;
      fits = record {
        dirty = grew.dirty;
        large = omega arith;
        turned = λ t. turned_or w.turned (v.turned ≡ true) grew.stays (λ not_yet. grew.turns end not_yet (kept.fits.at_end not_yet) ne);
        at_end = λ t. grew.last_end;
      };
    })

kept_shortened : (profile : Profile) (block_size : ℕ) (w v : FileWriter) (size : ℕ) → v.dirty ≡ true → (w.turned ≡ true → v.turned ≡ true) → ((end : ℕ) → w.last_end ≡ Some end → v.turned ≡ true) → length v.contents ≡ size → inline_limit profile block_size < size → size ≤ length w.contents
    → (form : ContentsForm) → IsWriterForm profile block_size form w → IsWriterForm profile block_size (shortened_form size form) v
kept_shortened profile block_size w v size dirty stays turns_writer long large le (InMemory old) kept =
    let few : old ≤ inline_limit profile block_size = kept.fits in
    let is : old ≡ length w.contents = kept.size in
    absurd (omega arith)
kept_shortened profile block_size w v size dirty stays turns_writer long large le (Finished old flying) kept = record {
  size = sym long;
  fits = record { dirty = λ e. dirty; large = λ e. large; turned = λ e. stays (kept.fits.turned e) };
}
kept_shortened profile block_size w v size dirty stays turns_writer long large le (InHand end base flying) kept = record {
  size = sym long;
  fits = record {
    dirty = λ e. dirty;
    large = λ e. large;
    turned = λ e. turned_or w.turned (v.turned ≡ true) stays (λ not_yet. turns_writer end (kept.fits.at_end not_yet));
  };
}

-- ---- the calls

turned_on : (turned : Bool) (last_end : Option ℕ) (begin end : ℕ) → last_end ≡ Some end → end ≢ begin → (turned || turns_writer last_end begin) ≡ true
turned_on turned last_end begin end at ne = or_right turned (turns_writer last_end begin) (let e : turns_writer (Some end) begin ≡ true = ap not (ne_eqb begin end (λ e. ne (sym e))) in ap (λ l. turns_writer l begin) at ∙ e)

pub kept_written : (profile : Profile) (block_size : ℕ) (form : ContentsForm) (w : FileWriter) (byte : ℕ) (bytes : List ℕ) → IsWriterForm profile block_size form w
    → IsWriterForm profile block_size (written_form (inline_limit profile block_size) (write_position w) (length (byte ∷ bytes)) form) (writer_after_write w (byte ∷ bytes))
kept_written profile block_size form w byte bytes kept =
    let place : ℕ = write_position w in
    let size : ℕ = form_size form in
    let stop : ℕ = place + length (byte ∷ bytes) in
    let v : FileWriter = writer_after_write w (byte ∷ bytes) in
    let is : size ≡ length w.contents = kept.size in
    let long : length v.contents ≡ max (length w.contents) stop = length-written w.contents place (byte ∷ bytes) in
    either profile block_size (nat_le (max size stop) (inline_limit profile block_size)) (InMemory (max size stop)) (form_written_within (min place size) stop form) v
    (λ fits. record { size = omega arith; fits = leb-true (max size stop) (inline_limit profile block_size) fits })
    (λ exceeds.
    let large : inline_limit profile block_size < max size stop = leb-false (max size stop) (inline_limit profile block_size) exceeds in
    kept_grown profile block_size w v (min place size) stop
    (record {
      dirty = refl;
      stays = λ t. or_left w.turned (turns_writer w.last_end (min place (length w.contents))) t;
      turns = λ end not_yet at ne. turned_on w.turned w.last_end (min place (length w.contents)) end at (λ e. ne (omega arith));
      last_end = refl;
      size = long;
    })
    (omega arith) (omega arith) form kept)

abbrev resized_to : ℕ → FileWriter → FileWriter
resized_to size w = record w {
  contents = take size (zero_padded size w.contents);
  dirty = true;
  turned = w.turned || is_some w.last_end;
  last_end = if nat_lt (length w.contents) size then Some size else w.last_end;
}

module _ (profile : Profile) (block_size : ℕ) (form : ContentsForm) (w : FileWriter) (size : ℕ) (kept : IsWriterForm profile block_size form w) (ne : size ≢ length w.contents) where
  abbrev resized : FileWriter
  resized = resized_to size w

  long : length resized.contents ≡ size
  long = omega (arith, length-take size (zero_padded size w.contents), length-zeros_to size w.contents)

  some_turned : (end : ℕ) → w.last_end ≡ Some end → resized.turned ≡ true
  some_turned end at = or_right w.turned (is_some w.last_end) (ap is_some at)

  abbrev other : ContentsForm
  other = if nat_lt (form_size form) size then form_written_within (form_size form) size form else shortened_form size form

  kept_other : inline_limit profile block_size < size → IsWriterForm profile block_size other resized
  kept_other large =
      let is : form_size form ≡ length w.contents = kept.size in
      let now = long in
      either profile block_size (nat_lt (form_size form) size) (form_written_within (form_size form) size form) (shortened_form size form) resized
      (λ longer.
      let more : form_size form < size = ltb-true (form_size form) size longer in
      kept_grown profile block_size w resized (form_size form) size
      (record {
        dirty = refl;
        stays = λ t. or_left w.turned (is_some w.last_end) t;
        turns = λ end not_yet at differs. some_turned end at;
        last_end = ap (λ (n : ℕ). if nat_lt n size then Some size else w.last_end) (sym is) ∙ ap (λ (t : Bool). if t then Some size else w.last_end) longer;
        size = omega arith;
      })
      (omega arith) (omega arith) form kept)
      (λ shorter.
      let less : size ≤ form_size form = ltb-false (form_size form) size shorter in
      kept_shortened profile block_size w resized size refl (λ t. or_left w.turned (is_some w.last_end) t) some_turned now large (omega arith) form kept)

  kept_resized : IsWriterForm profile block_size (if nat_le size (inline_limit profile block_size) then InMemory size else other) resized
  kept_resized = either profile block_size (nat_le size (inline_limit profile block_size)) (InMemory size) other resized
      (λ fits. record { size = sym long; fits = leb-true size (inline_limit profile block_size) fits })
      (λ exceeds. kept_other (leb-false size (inline_limit profile block_size) exceeds))

  kept_truncated_ne : IsWriterForm profile block_size (truncated_form (inline_limit profile block_size) size form) (truncated_writer w size)
  kept_truncated_ne =
      let is : form_size form ≡ length w.contents = kept.size in
      let first : truncated_form (inline_limit profile block_size) size form ≡ (if nat_le size (inline_limit profile block_size) then InMemory size else other) =
      ap (λ (t : Bool). if t then form else (if nat_le size (inline_limit profile block_size) then InMemory size else other)) (ne_eqb size (form_size form) (λ e. ne (e ∙ is))) in
      let second : truncated_writer w size ≡ resized = ap (λ (t : Bool). if t then w else resized) (ne_eqb size (length w.contents) ne) in
      subst (λ (f : ContentsForm). IsWriterForm profile block_size f (truncated_writer w size)) (sym first) (subst (λ (v : FileWriter). IsWriterForm profile block_size (if nat_le size (inline_limit profile block_size) then InMemory size else other) v) (sym second) kept_resized)

pub kept_truncated : (profile : Profile) (block_size : ℕ) (form : ContentsForm) (w : FileWriter) (size : ℕ) → IsWriterForm profile block_size form w → IsWriterForm profile block_size (truncated_form (inline_limit profile block_size) size form) (truncated_writer w size)
kept_truncated profile block_size form w size kept = ⊎_elim
    (λ e.
    let first : truncated_form (inline_limit profile block_size) size form ≡ form =
    ap (λ (t : Bool). if t then form else (if nat_le size (inline_limit profile block_size) then InMemory size else (if nat_lt (form_size form) size then form_written_within (form_size form) size form else shortened_form size form))) (eq-eqb size (form_size form) (e ∙ sym kept.size)) in
    let second : truncated_writer w size ≡ w = ap (λ (t : Bool). if t then w else resized_to size w) (eq-eqb size (length w.contents) e) in
    subst (λ (f : ContentsForm). IsWriterForm profile block_size f (truncated_writer w size)) (sym first) (subst (λ (v : FileWriter). IsWriterForm profile block_size form v) (sym second) kept))
    (λ ne. kept_truncated_ne profile block_size form w size kept ne)
    (cases_eq size (length w.contents))

contents_synced : (w : FileWriter) → (synced_writer w).contents ≡ w.contents
contents_synced w = go w.dirty
  where
    go : (t : Bool) → (if t then record w { dirty = false; turned = false; last_end = None } else w).contents ≡ w.contents
    go true = refl
    go false = refl

pub kept_synced : (profile : Profile) (block_size : ℕ) (form : ContentsForm) (w : FileWriter) → IsWriterForm profile block_size form w → IsWriterForm profile block_size (synced_form form) (synced_writer w)
kept_synced profile block_size (InMemory size) w kept = record { size = kept.size ∙ ap length (sym (contents_synced w)); fits = kept.fits }
kept_synced profile block_size (Finished size flying) w kept = record {
  size = kept.size ∙ ap length (sym (contents_synced w));
  fits = record { dirty = λ e. absurd (cc); large = λ e. absurd (cc); turned = λ e. absurd (cc) };
}
kept_synced profile block_size (InHand end base flying) w kept = record {
  size = kept.size ∙ ap length (sym (contents_synced w));
  fits = record { dirty = λ e. absurd (cc); large = λ e. absurd (cc); turned = λ e. absurd (cc) };
}

-- a writer that was opened on contents in its entry, or truncated, has them in memory
pub kept_opened_inline : (profile : Profile) (block_size : ℕ) (path : Path) (flags : FlagsOfOpen) (bytes : List ℕ) → length (opened_writer path flags bytes).contents ≤ inline_limit profile block_size
    → IsWriterForm profile block_size (InMemory (length (opened_writer path flags bytes).contents)) (opened_writer path flags bytes)
kept_opened_inline profile block_size path flags bytes few = record { size = refl; fits = few }

pub kept_opened_list : (profile : Profile) (block_size : ℕ) (path : Path) (flags : FlagsOfOpen) (bytes : List ℕ) → IsWriterForm profile block_size (Finished (length (opened_writer path flags bytes).contents) false) (opened_writer path flags bytes)
kept_opened_list profile block_size path flags bytes = record {
  size = refl;
  fits = record { dirty = λ e. absurd (cc); large = λ e. absurd (cc); turned = λ e. absurd (cc) };
}

-- ---- space

held_dirty : (profile : Profile) (block_size : ℕ) (w : FileWriter) → w.dirty ≡ true → inline_limit profile block_size < length w.contents → reserved_for_writer profile block_size w ≡ 2 + (if w.turned then 2 else 1) * skip_list_block_count block_size (length w.contents)
held_dirty profile block_size w dirty large =
    let n : ℕ = length w.contents in
    let first : reserved_for_writer profile block_size w ≡ 2 + (if w.turned then 2 else 1) * file_block_count profile block_size n = ap (λ (t : Bool). if not t then 0 else 2 + (if w.turned then 2 else 1) * file_block_count profile block_size n) dirty in
    let outside : nat_le n (inline_limit profile block_size) ≡ false = lt-leb n (inline_limit profile block_size) large in
    first ∙ ap (λ (t : Bool). 2 + (if w.turned then 2 else 1) * (if t then 0 else skip_list_block_count block_size n)) outside

held_turned : (profile : Profile) (block_size : ℕ) (w : FileWriter) → w.dirty ≡ true → inline_limit profile block_size < length w.contents → w.turned ≡ true → reserved_for_writer profile block_size w ≡ 2 + 2 * skip_list_block_count block_size (length w.contents)
held_turned profile block_size w dirty large turned = held_dirty profile block_size w dirty large ∙ ap (λ (t : Bool). 2 + (if t then 2 else 1) * skip_list_block_count block_size (length w.contents)) turned

held_once : (profile : Profile) (block_size : ℕ) (w : FileWriter) → w.dirty ≡ true → inline_limit profile block_size < length w.contents → 2 + skip_list_block_count block_size (length w.contents) ≤ reserved_for_writer profile block_size w
held_once profile block_size w dirty large = turned_or w.turned (2 + skip_list_block_count block_size (length w.contents) ≤ reserved_for_writer profile block_size w)
    (λ t. let e = held_turned profile block_size w dirty large t in omega arith)
    (λ t. let e : reserved_for_writer profile block_size w ≡ 2 + 1 * skip_list_block_count block_size (length w.contents) = held_dirty profile block_size w dirty large ∙ ap (λ (t : Bool). 2 + (if t then 2 else 1) * skip_list_block_count block_size (length w.contents)) t in omega arith)

-- The blocks in flight, and two more while the writer is dirty, are no more than it holds.
pub held_covers : (profile : Profile) (block_size : ℕ) (form : ContentsForm) (w : FileWriter) → IsWriterForm profile block_size form w → form_in_flight block_size form ≤ reserved_for_writer profile block_size w - 2
held_covers profile block_size (InMemory size) w kept = omega arith
held_covers profile block_size (Finished size true) w kept =
    let is : size ≡ length w.contents = kept.size in
    let large : inline_limit profile block_size < size = kept.fits.large refl in
    let same : skip_list_block_count block_size size ≡ skip_list_block_count block_size (length w.contents) = ap (skip_list_block_count block_size) is in
    let e = held_once profile block_size w (kept.fits.dirty refl) (omega arith) in
    omega arith
held_covers profile block_size (Finished size false) w kept = omega arith
held_covers profile block_size (InHand end base true) w kept =
    let is : max end base ≡ length w.contents = kept.size in
    let large : inline_limit profile block_size < max end base = kept.fits.large in
    let one = skip_list_block_count-more block_size end (length w.contents) (omega arith) in
    let two = skip_list_block_count-more block_size base (length w.contents) (omega arith) in
    let e = held_turned profile block_size w kept.fits.dirty (omega arith) (kept.fits.turned refl) in
    omega arith
held_covers profile block_size (InHand end base false) w kept =
    let is : max end base ≡ length w.contents = kept.size in
    let large : inline_limit profile block_size < max end base = kept.fits.large in
    let one = skip_list_block_count-more block_size end (length w.contents) (omega arith) in
    let e = held_once profile block_size w kept.fits.dirty (omega arith) in
    omega arith

-- room for what a writer holds is room for going on, or for a list over the base
pub room_grown : (profile : Profile) (block_size end base : ℕ) (flying : Bool) (v : FileWriter) (used all : ℕ) → IsWriterForm profile block_size (InHand end base flying) v → used + reserved_for_writer profile block_size v ≤ all
    → used + skip_list_block_count block_size end + (if flying then skip_list_block_count block_size base else 0) ≤ all
room_grown profile block_size end base flying v used all kept room =
    let covers = held_covers profile block_size (InHand end base flying) v kept in
    let is : max end base ≡ length v.contents = kept.size in
    let large : inline_limit profile block_size < max end base = kept.fits.large in
    let e = held_once profile block_size v kept.fits.dirty (omega arith) in
    omega arith

-- for a list that ends and another one over it
pub room_turned : (profile : Profile) (block_size end base : ℕ) (v : FileWriter) (used all : ℕ) → IsWriterForm profile block_size (InHand end base true) v → used + reserved_for_writer profile block_size v ≤ all
    → used + 2 * skip_list_block_count block_size (max base end) ≤ all
room_turned profile block_size end base v used all kept room =
    let is : max end base ≡ length v.contents = kept.size in
    let large : inline_limit profile block_size < max end base = kept.fits.large in
    let e = held_turned profile block_size v kept.fits.dirty (omega arith) (kept.fits.turned refl) in
    let same : skip_list_block_count block_size (max base end) ≡ skip_list_block_count block_size (length v.contents) = ap (skip_list_block_count block_size) (let m : max base end ≡ length v.contents = omega arith in m) in
    omega arith

-- for ending a list as it is
pub room_ended : (profile : Profile) (block_size end base : ℕ) (flying : Bool) (w : FileWriter) (used all : ℕ) → IsWriterForm profile block_size (InHand end base flying) w → used + reserved_for_writer profile block_size w ≤ all
    → used + (if flying then skip_list_block_count block_size base else 0) + skip_list_block_count block_size base ≤ all
room_ended profile block_size end base true w used all kept room =
    let is : max end base ≡ length w.contents = kept.size in
    let large : inline_limit profile block_size < max end base = kept.fits.large in
    let two = skip_list_block_count-more block_size base (length w.contents) (omega arith) in
    let e = held_turned profile block_size w kept.fits.dirty (omega arith) (kept.fits.turned refl) in
    omega arith
room_ended profile block_size end base false w used all kept room =
    let is : max end base ≡ length w.contents = kept.size in
    let large : inline_limit profile block_size < max end base = kept.fits.large in
    let two = skip_list_block_count-more block_size base (length w.contents) (omega arith) in
    let e = held_once profile block_size w kept.fits.dirty (omega arith) in
    omega arith

-- ---- which form a write leaves

pub written_few : (limit place count : ℕ) (form : ContentsForm) → max (form_size form) (place + count) ≤ limit → written_form limit place count form ≡ InMemory (max (form_size form) (place + count))
written_few limit place count form few =
    ap (λ (t : Bool). if t then InMemory (max (form_size form) (place + count)) else form_written_within (min place (form_size form)) (place + count) form) (le-leb (max (form_size form) (place + count)) limit few)

pub written_many : (limit place count : ℕ) (form : ContentsForm) → limit < max (form_size form) (place + count) → written_form limit place count form ≡ form_written_within (min place (form_size form)) (place + count) form
written_many limit place count form many =
    ap (λ (t : Bool). if t then InMemory (max (form_size form) (place + count)) else form_written_within (min place (form_size form)) (place + count) form) (lt-leb (max (form_size form) (place + count)) limit many)

-- a write to contents in hand, by what it makes of the list and its base
pub written_hand : (limit place count end base : ℕ) (flying : Bool) (size under : ℕ) (waits : Bool) → limit < max end base → size ≡ place + count
    → (end ≡ min place (max end base) → (under ≡ base) × (waits ≡ flying)) → (end ≢ min place (max end base) → (under ≡ max end base) × (waits ≡ true))
    → InHand size under waits ≡ written_form limit place count (InHand end base flying)
written_hand limit place count end base flying size under waits large is on anew =
    let begin : ℕ = min place (max end base) in
    let stop : ℕ = place + count in
    let many = written_many limit place count (InHand end base flying) (omega arith) in
    ⊎_elim
    (λ same.
    let t : (end == begin) ≡ true = eq-eqb end begin same in
    ap (λ k. InHand k under waits) is ∙ ap (λ k. InHand stop k waits) (on same).0 ∙ ap (InHand stop base) (on same).1
    ∙ sym (many ∙ ap (λ (v : Bool). if v then InHand stop base flying else InHand stop (max end base) true) t))
    (λ ne.
    let t : (end == begin) ≡ false = ne_eqb end begin ne in
    ap (λ k. InHand k under waits) is ∙ ap (λ k. InHand stop k waits) (anew ne).0 ∙ ap (InHand stop (max end base)) (anew ne).1
    ∙ sym (many ∙ ap (λ (v : Bool). if v then InHand stop base flying else InHand stop (max end base) true) t))
    (cases_eq end begin)
