-- The blocks that a writer reserves are enough for its next write, for a truncation, and for completing its draft.
use Rattle.std.proofs.Common.{ℕ, ◌≡◌, ◌+◌, ◌*◌, ◌<◌, ◌≤◌, ⊎_elim, Bool, true, false, if◌then◌else◌, max, min, List, ◌∷◌, length, sym, ap, subst, arith}
use Rattle.std.specs.Prelude.{◌==◌}
use Rattle.lfs_file.proofs.Common.{cases_lt, inline_limit, skip_list_block_count, FileWriter, reserved_for_writer, truncated_writer, writer_after_write, write_position, ContentsForm, InMemory, Finished, InHand, form_size, form_written_within, IsWriterForm, truncation_room, write_room}
use Rattle.lfs_model.specs.declared.limits.Profile.{Profile}
use Rattle.lfs_file.specs.Contents.{FormFitsLimit, NeedsTruncateRoom, finish_room}
use Rattle.lfs_file.proofs.Forms.{kept_truncated, kept_written, room_ended, room_grown, room_turned, written_many}
use Rattle.lfs_file.proofs.Truncations.{longer_room, room_shorter, truncated_longer}

pub kept_large : (profile : Profile) (block_size : ℕ) (form : ContentsForm) (w : FileWriter) → IsWriterForm profile block_size form w → FormFitsLimit (inline_limit profile block_size) form
kept_large profile block_size (InMemory size) w kept = kept.fits
kept_large profile block_size (Finished size flying) w kept = kept.fits.large
kept_large profile block_size (InHand stop base flying) w kept = kept.fits.large

pub kept_moved : (profile : Profile) (block_size place : ℕ) (form : ContentsForm) (w : FileWriter) → IsWriterForm profile block_size form w → IsWriterForm profile block_size form (record w { position = place })
kept_moved profile block_size place (InMemory size) w kept = record { size = kept.size; fits = kept.fits }
kept_moved profile block_size place (Finished size flying) w kept = record {
  size = kept.size;
  fits = record { dirty = kept.fits.dirty; large = kept.fits.large; turned = kept.fits.turned };
}
kept_moved profile block_size place (InHand stop base flying) w kept = record {
  size = kept.size;
  fits = record { dirty = kept.fits.dirty; large = kept.fits.large; turned = kept.fits.turned; at_end = kept.fits.at_end };
}

either_room : (profile : Profile) (t : Bool) (block_size stop end base : ℕ) (flying : Bool) (v : FileWriter) (used all : ℕ) → IsWriterForm profile block_size (if t then InHand stop base flying else InHand stop (max end base) true) v → used + reserved_for_writer profile block_size v ≤ all
    → used + (if t then skip_list_block_count block_size stop + (if flying then skip_list_block_count block_size base else 0) else 2 * skip_list_block_count block_size (max (max end base) stop)) ≤ all
either_room profile true block_size stop end base flying v used all kept room = let e = room_grown profile block_size stop base flying v used all kept room in omega arith
either_room profile false block_size stop end base flying v used all kept room = room_turned profile block_size stop (max end base) v used all kept room

grown_room : (profile : Profile) (block_size place count : ℕ) (form : ContentsForm) (v : FileWriter) (used all : ℕ) → IsWriterForm profile block_size (form_written_within (min place (form_size form)) (place + count) form) v → used + reserved_for_writer profile block_size v ≤ all → used + write_room block_size place count form ≤ all
grown_room profile block_size place count (InMemory size) v used all kept room = let e = room_grown profile block_size (place + count) 0 false v used all kept room in omega arith
grown_room profile block_size place count (Finished size flying) v used all kept room = let e = room_grown profile block_size (place + count) size flying v used all kept room in omega arith
grown_room profile block_size place count (InHand end base flying) v used all kept room = either_room profile (end == min place (max end base)) block_size (place + count) end base flying v used all kept room

pub room_to_write : (profile : Profile) (block_size : ℕ) (form : ContentsForm) (w : FileWriter) (byte : ℕ) (bytes : List ℕ) (used all : ℕ) → IsWriterForm profile block_size form w → used + reserved_for_writer profile block_size (writer_after_write w (byte ∷ bytes)) ≤ all
    → inline_limit profile block_size < max (form_size form) (write_position w + length (byte ∷ bytes)) → used + write_room block_size (write_position w) (length (byte ∷ bytes)) form ≤ all
room_to_write profile block_size form w byte bytes used all kept room many =
    grown_room profile block_size (write_position w) (length (byte ∷ bytes)) form (writer_after_write w (byte ∷ bytes)) used all
    (subst (λ (f : ContentsForm). IsWriterForm profile block_size f (writer_after_write w (byte ∷ bytes))) (written_many (inline_limit profile block_size) (write_position w) (length (byte ∷ bytes)) form many) (kept_written profile block_size form w byte bytes kept)) room

pub room_to_end : (profile : Profile) (block_size : ℕ) (form : ContentsForm) (w : FileWriter) (used all : ℕ) → IsWriterForm profile block_size form w → used + reserved_for_writer profile block_size w ≤ all → used + finish_room block_size form ≤ all
room_to_end profile block_size (InMemory size) w used all kept room = omega arith
room_to_end profile block_size (Finished size flying) w used all kept room = omega arith
room_to_end profile block_size (InHand end base flying) w used all kept room = let e = room_ended profile block_size end base flying w used all kept room in omega arith

longer_hand_room : (profile : Profile) (t : Bool) (block_size size end base : ℕ) (flying : Bool) (v : FileWriter) (used all : ℕ) → max end base < size → IsWriterForm profile block_size (if t then InHand size base flying else InHand size (max end base) true) v → used + reserved_for_writer profile block_size v ≤ all
    → used + (if t then skip_list_block_count block_size size + (if flying then skip_list_block_count block_size base else 0) else 2 * skip_list_block_count block_size size) ≤ all
longer_hand_room profile true block_size size end base flying v used all more kept room = let e = room_grown profile block_size size base flying v used all kept room in omega arith
longer_hand_room profile false block_size size end base flying v used all more kept room =
    let e = room_turned profile block_size size (max end base) v used all kept room in
    let same : skip_list_block_count block_size (max (max end base) size) ≡ skip_list_block_count block_size size = ap (skip_list_block_count block_size) (let m : max (max end base) size ≡ size = omega arith in m) in
    omega arith

-- what a writer holds before and after is room for a truncation
pub room_to_truncate : (profile : Profile) (block_size : ℕ) (form : ContentsForm) (w : FileWriter) (size used all : ℕ) → IsWriterForm profile block_size form w → used + reserved_for_writer profile block_size w ≤ all → used + reserved_for_writer profile block_size (truncated_writer w size) ≤ all
    → NeedsTruncateRoom (inline_limit profile block_size) size form → used + truncation_room block_size size form ≤ all
room_to_truncate profile block_size (InMemory old) w size used all kept before after needs =
    let few : old ≤ inline_limit profile block_size = kept.fits in
    let is = truncated_longer (inline_limit profile block_size) size (InMemory old) (omega arith) needs in
    let new = subst (λ (f : ContentsForm). IsWriterForm profile block_size f (truncated_writer w size)) (sym is) (kept_truncated profile block_size (InMemory old) w size kept) in
    let e = room_grown profile block_size size 0 false (truncated_writer w size) used all new after in
    omega arith
room_to_truncate profile block_size (Finished old flying) w size used all kept before after needs =
    let is = truncated_longer (inline_limit profile block_size) size (Finished old flying) needs.1 needs.0 in
    let new = subst (λ (f : ContentsForm). IsWriterForm profile block_size f (truncated_writer w size)) (sym is) (kept_truncated profile block_size (Finished old flying) w size kept) in
    let e = room_grown profile block_size size old flying (truncated_writer w size) used all new after in
    omega arith
room_to_truncate profile block_size (InHand end base flying) w size used all kept before after needs =
    let large : inline_limit profile block_size < max end base = kept.fits.large in
    ⊎_elim
    (λ longer.
    let is = truncated_longer (inline_limit profile block_size) size (InHand end base flying) longer (omega arith) in
    let new = subst (λ (f : ContentsForm). IsWriterForm profile block_size f (truncated_writer w size)) (sym is) (kept_truncated profile block_size (InHand end base flying) w size kept) in
    let e = longer_hand_room profile (end == max end base) block_size size end base flying (truncated_writer w size) used all longer new after in
    let room = longer_room block_size size end base flying longer in
    omega arith)
    (λ shorter.
    let e = room_ended profile block_size end base flying w used all kept before in
    let room = room_shorter block_size size end base flying (omega arith) in
    omega arith)
    (cases_lt (max end base) size)
