use Rattle.std.proofs.Common.{rules, ◌≡◌, ◌<◌, [], ◌∷◌, ◌++◌, length}
use Rattle.product_chain.proofs.Forking.{known_fork, new_fork}
use Rattle.product_chain.proofs.course.all_forks.Goals as goal
use Rattle.product_chain.proofs.course.all_forks.Goals.{in-Some+in_ok-push-in-Some, in-None+in_ok-push-in-None+in_ok-push-in-None-2}

pub loop-row-preserved : goal.loop-row-preserved
loop-row-preserved c =
    let a = c.args.grid.now in
    let forks = c.loop-row.forks.items in
    let places = c.loop-row.places.items in
    elim c.match-place_of.branch [
      | in-Some+in_ok-push-in-Some w ↦
          let same : c.match-place_of.forks.items ≡ forks = search rules in
          let more : c.match-place_of.places.items ≡ places ++ w.in-Some.place ∷ [] = search rules in
          let within : w.in-Some.place < length forks = search rules in
          let value = rw c.deref.ensures.value at w.in-Some.ensures.value in
          rw (same, more) (known_fork a c.args.mine c.loop-row.row forks places c.own_fork-fork.result c.loop-row.invariant c.own_fork-fork.ensures.fork w.in-Some.place within value)
      | in-None+in_ok-push-in-None+in_ok-push-in-None-2 w ↦
          let new : c.match-place_of.forks.items ≡ forks ++ c.own_fork-fork.result ∷ [] = search rules in
          let more : c.match-place_of.places.items ≡ places ++ length forks ∷ [] = search rules in
          rw (new, more) (new_fork a c.args.mine c.loop-row.row forks places c.own_fork-fork.result c.loop-row.invariant c.own_fork-fork.ensures.fork c.own_fork-fork.ensures.inside)
    ]
