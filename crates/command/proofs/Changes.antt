-- An add or a remove that has an effect: what the chain is then, and that it is a chain again.
use Rattle.std.proofs.Common.{◌≡◌, ℕ, ◌<◌, ◌≤◌, true, false, List, [], ◌∷◌, ◌++◌, length, inl, inr, arith}
use Rattle.std.proofs.lemmas.Bool.{cond-true, and_from, lt-ltb, both_ways, cases_Bool}
use Rattle.std.proofs.lemmas.List.{length_push}
use Rattle.command.specs.Sets.{has, with_director}
use Rattle.command.specs.Members.{Membership, valid_chain, all_in, is_member, removed, without}
use Rattle.command.proofs.Bits.{has_joined}
use Rattle.command.proofs.Lists.{valid_parts, valid_from, different_push, different_without, all_in_has, all_in_more}
use Rattle.command.proofs.Lists.{all_in_push, all_in_without, length_without, length_without_le}

pub removed_is : (m : Membership) (a : ℕ) → 1 < length m.members → is_member a m.members ≡ true
    → removed a m ≡ record { members = without a m.members; ever = m.ever }
removed_is m a l h = cond-true _ _ _ (and_from _ _ (lt-ltb 1 (length m.members) l) h)

module _ (ms : List ℕ) (s a : ℕ) (valid : valid_chain ms ≡ true) (known : all_in s ms ≡ true) where
  pub added_valid : a ≤ 31 → length ms < 7 → has s a ≡ false → valid_chain (ms ++ (a ∷ [])) ≡ true
  added_valid low l h =
      let v = valid_parts ms valid in
      let e = length_push ms a in
      let new : is_member a ms ≡ false =
      elim (cases_Bool (is_member a ms))
      [ inl y ↦ absurd (both_ways (has s a) h (all_in_has s a ms known y)) | inr n ↦ n ] in
      valid_from (ms ++ (a ∷ []))
      (record { some = omega arith; few = omega arith; different = different_push a ms low new v.different })

  pub added_known : (t : ℕ) → t ≡ with_director s a → a ≤ 31 → all_in t (ms ++ (a ∷ [])) ≡ true
  added_known t e low =
      rw e (all_in_push (with_director s a) a ms (all_in_more s a ms known) (has_joined s a low))

  pub removed_valid : 1 < length ms → valid_chain (without a ms) ≡ true
  removed_valid l =
      let v = valid_parts ms valid in
      let one = length_without a ms v.different in
      let le = length_without_le a ms in
      valid_from (without a ms)
      (record { some = omega arith; few = omega arith; different = different_without a ms v.different })

  pub removed_known : all_in s (without a ms) ≡ true
  removed_known = all_in_without s a ms known
