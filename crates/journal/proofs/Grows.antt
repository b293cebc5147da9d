-- Whatever is written, promises never fall and settled lists only grow.
use Rattle.std.proofs.Common.{◌≡◌, ◌≤◌, Bool, true, false, cond, List, [], ◌∷◌, take, sym, refl, ap, ◌∙◌, le_trans, arith}
use Rattle.std.proofs.lemmas.Bool.{leb-true}
use Rattle.std.proofs.lemmas.List.{take_at, take_all, take-take, length-append}
use Rattle.journal.specs.declared.writes.Write.{Write}
use Rattle.journal.specs.declared.writes.Write.TheVariants.{Promise, Put, Settle}
use Rattle.journal.specs.Meaning.{Meaning, settled_count, taken, after, step, replay}

-- m leads on to m'
pub record Leads (m m' : Meaning) : Type 0 where
  pub promised : m.promised ≤ m'.promised
  pub count : settled_count m ≤ settled_count m'
  pub settled : take (settled_count m) m'.settled ≡ m.settled

same : (m : Meaning) → Leads m m
same m = record {
  promised = omega arith;
  count = omega arith;
  settled = take_all (settled_count m) m.settled
      (omega arith);
}

written : (w : Write) (m : Meaning) → taken w m ≡ true → Leads m (after w m)
unfolding taken after
written (Promise b) m h =
    record {
      promised = leb-true m.promised b h;
      count = omega arith;
      settled = take_all (settled_count m) m.settled (omega arith);
    }
written (Put n b c) m h =
    record {
      promised = omega arith;
      count = omega arith;
      settled = take_all (settled_count m) m.settled
          (omega arith);
    }
written (Settle c) m h =
    let l = length-append m.settled (c ∷ []) in
    record {
      promised = omega arith;
      count = omega arith;
      settled = take_at m.settled (c ∷ [])
          (settled_count m) refl;
    }

stepped : (w : Write) (m : Meaning) → Leads m (step w m)
unfolding step
stepped w m = go (taken w m) refl
  where
    go : (t : Bool) → taken w m ≡ t → Leads m (cond t (after w m) m)
    go true e = written w m e
    go false e = same m

pub leads : (ws : List Write) (m : Meaning) → Leads m (replay m ws)
leads [] m = same m
leads (w ∷ ws) m =
    let p = stepped w m in
    let q = leads ws (step w m) in
    let n = settled_count m in
    record {
      promised = le_trans p.promised q.promised;
      count = le_trans p.count q.count;
      settled = sym (take-take n (settled_count (step w m)) (replay (step w m) ws).settled p.count)
          ∙ ap (take n) q.settled ∙ p.settled;
    }
