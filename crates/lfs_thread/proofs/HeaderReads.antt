-- The number of reads that a thread's headers cost.
use Rattle.std.proofs.Common.{ℕ, ◌≡◌, ◌+◌, ◌++◌, ◌∙◌, List, [], ◌∷◌, refl, sym, ap, ap₂, arith}
use Rattle.std.specs.Prelude.{sum_by}
use Rattle.std.proofs.lemmas.List.Sums.{sum_by-cons, sum_by_push}
use Rattle.lfs_thread.proofs.Common.{Disk, Pair, header_address, fetch_reads, PairHeader, disk_pair_at, header_pairs}
use Rattle.lfs_thread.specs.HeaderReading.{thread_reads}

-- the same, counted for headers
pub header_reads_of : (on disk : Disk) (hs : List PairHeader) → thread_reads disk (header_pairs on hs) ≡ sum_by (λ h. fetch_reads disk (header_address h)) hs
header_reads_of on disk [] = refl
header_reads_of on disk (h ∷ hs) =
    sum_by-cons (λ (p : Pair). fetch_reads disk p.at) (disk_pair_at on (header_address h)) (header_pairs on hs)
    ∙ ap (λ n. fetch_reads disk (header_address h) + n) (header_reads_of on disk hs)
    ∙ sym (sum_by-cons (λ (x : PairHeader). fetch_reads disk (header_address x)) h hs)

-- the reads of one more header
pub more_reads : (now disk : Disk) (hs : List PairHeader) (h : PairHeader) (all : List PairHeader) (at : ℕ × ℕ) (first mid last : ℕ) → now ≡ disk → header_address h ≡ at → all ≡ hs ++ h ∷ []
    → mid ≡ first + sum_by (λ x. fetch_reads disk (header_address x)) hs → last ≡ mid + fetch_reads now at
    → last ≡ first + sum_by (λ x. fetch_reads disk (header_address x)) all
more_reads now disk hs h all at first mid last same here is before read =
    let more = ap (sum_by (λ (x : PairHeader). fetch_reads disk (header_address x))) is ∙ sum_by_push (λ (x : PairHeader). fetch_reads disk (header_address x)) hs h in
    let one = ap₂ fetch_reads same (sym here) in
    omega (arith, before, read, more, one)
