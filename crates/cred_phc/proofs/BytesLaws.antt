-- Bytes with zeros after them, and bytes that don't differ.
use Rattle.std.proofs.Common.{◌≡◌, ◌↔◌, ℕ, ◌≤◌, nat_eq, List, ◌++◌, length, map, drop, replicate, arith}
use Rattle.std.proofs.lemmas.Bool.Decides.{Decides-eqb, Decides-like, same_from_decides}
use Rattle.std.proofs.lemmas.{Grind.common_steps, List.drop-replicate, List.drop_at, List.map-id, Slice.Eq.bytes_eq-Decides}
use Rattle.std.specs.Str.{bytes_eq}
use Rattle.base64.specs.GeneralPurpose.{IsBytes}
use Rattle.cred_base64.proofs.DecodedLaws.{append_bytes}
use Rattle.cred_phc.specs.Padded.{IsPadded}

zeros_bytes : (n : ℕ) → IsBytes (replicate n 0)
zeros_bytes n i = grind (arith, common_steps)

pub padded : (cap n : ℕ) (bytes : List ℕ) → length bytes ≡ n → n ≤ cap → IsBytes bytes → IsPadded cap n (bytes ++ drop n (replicate cap 0))
padded cap n bytes size fits is_bytes = rw drop-replicate (record {
  all = grind (arith, common_steps);
  used = fits;
  zeros = grind (arith, common_steps, drop_at);
  bytes = append_bytes bytes _ is_bytes (zeros_bytes _);
})

-- bytes whose differences sum up to none are the same
pub none_differs : (sum : ℕ) (xs ys these those : List ℕ) → these ≡ xs → those ≡ ys → ((sum ≡ 0) ↔ (map (λ byte. byte) these ≡ map (λ byte. byte) those))
    → nat_eq sum 0 ≡ bytes_eq xs ys
none_differs sum xs ys these those first second told =
    let same = rw (map-id these, map-id those, first, second) at told in
    same_from_decides (nat_eq sum 0) (bytes_eq xs ys) (Decides-like (nat_eq sum 0) same.0 same.1 (Decides-eqb sum 0)) (bytes_eq-Decides xs ys)
