-- A finished builder's buffer begins with the commit's pages.
use Rattle.std.proofs.Common.{◌≡◌, ℕ, ◌+◌, ◌-◌, ◌≤◌, ◌<◌, ◌^◌, List, ◌++◌, length, take, bit_xor, Option, IfSome, refl, ap, ◌∙◌, arith, replicate}
use Rattle.lfs_tag.proofs.Common.{length-replicate, overwritten_at, PartialCommit, checksum_start, padded_commit_end, checksum_tag, checksummed_bytes, BuildsCommit}
use Rattle.byteorder.specs.Endian.{big_bytes, little_bytes}
use Rattle.lfs_model.specs.format.Crc.{crc_of}
use Rattle.lfs_tag.proofs.BuilderWrites.{take-overwritten}
use Rattle.lfs_tag.proofs.BuilderChecksums.{AreBytes, padded}
use Rattle.lfs_tag.proofs.BuilderPages.{ArePages}

-- what is known when the checksum is written
pub record Sealed (page len last stored end tag : ℕ) (buf now : List ℕ) (b : PartialCommit) : Type 0 where
  pub kept : BuildsCommit page len last buf b
  pub end_is : end ≡ padded_commit_end b
  pub within : end ≤ length buf
  pub room : length buf < 2 ^ 64 - 1
  pub stored_is : stored ≡ bit_xor tag last
  pub fits : stored < 2 ^ 32
  pub small : crc_of 0xffffffff (take len buf ++ big_bytes 4 stored) < 2 ^ 32
  pub bytes : now ≡ overwritten_at buf len (big_bytes 4 stored ++ (little_bytes 4 (crc_of 0xffffffff (take len buf ++ big_bytes 4 stored)) ++ replicate (end - (len + 8)) 255))

module _ (page len last stored end tag : ℕ) (buf now : List ℕ) (b : PartialCommit) (s : Sealed page len last stored end tag buf now b) where
  abbrev sum : ℕ
  sum = crc_of 0xffffffff (take len buf ++ big_bytes 4 stored)

  abbrev pad : List ℕ
  pad = replicate (padded_commit_end b - (checksum_start b + 8)) 255

  exact : len ≡ checksum_start b
  exact = let p = padded b s.kept.power in omega (arith, s.kept.len_is, s.end_is, s.within, s.room, p.low)

  pages_are : take end now ≡ checksummed_bytes b ++ (big_bytes 4 (bit_xor tag last) ++ (little_bytes 4 sum ++ pad))
  pages_are =
      let p = padded b s.kept.power in
      let filled = big_bytes 4 stored ++ (little_bytes 4 sum ++ replicate (end - (len + 8)) 255) in
      let filler : ℕ = 255 in
      let eight : length filled ≡ 8 + length (replicate (end - (len + 8)) filler) = omega arith in
      let stop : end ≡ len + length filled = omega (arith, eight, length-replicate (end - (len + 8)) filler, exact, s.end_is, p.low) in
      let same : end - (len + 8) ≡ padded_commit_end b - (checksum_start b + 8) = omega (arith, exact, s.end_is) in
      ap (take end) s.bytes ∙ take-overwritten len end buf filled (omega (arith, s.within, stop)) stop ∙ ap (λ (l : List ℕ). l ++ filled) (s.kept.bytes (omega (arith, s.within, stop)))
      ∙ rw (same, ← s.stored_is) refl

  pub are_pages : (next : Option (List ℕ)) → IfSome next AreBytes → tag ≡ checksum_tag b next → ArePages b next (take end now) last sum
  are_pages next bytes is = record {
    power = s.kept.power;
    last_is = s.kept.last_is;
    revision = s.kept.revision;
    entries = s.kept.entries;
    bytes = bytes;
    fits = rw (← is, ← s.stored_is) s.fits;
    small = s.small;
    sum_is = rw (← is, ← s.stored_is) (ap (λ (l : List ℕ). crc_of 0xffffffff (l ++ big_bytes 4 stored)) (s.kept.bytes (omega (arith, exact, s.within, s.end_is, (padded b s.kept.power).low))));
    pages_are = rw (← is) pages_are;
  }
