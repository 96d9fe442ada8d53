use mathlib.Core.Path.{refl}
use Rattle.exports.specs.Print.{by_mode}
use Rattle.exports.proofs.Answers.{known, unknown}
use Rattle.exports.proofs.print.tungvesk_list.Goals as goal

pub returns-in_default : goal.returns-in_default
unfolding by_mode
returns-in_default c = rw (unknown c.try_from.ensures c.in_default.is) (record { value = refl; counts_after = refl; records_after = refl; texts_after = refl; listing_after = refl })

pub returns : goal.returns
unfolding by_mode
returns c =
    let e = known c.try_from.ensures c.in-Ok.is in
    rw (e, ← c.list_items.ensures.value, ← c.from-l.ensures.answered, ← c.from-l.ensures.listed)
    (record {
      value = refl;
      counts_after = refl;
      records_after = c.list_items.ensures.records_after;
      texts_after = c.list_items.ensures.texts_after;
      listing_after = c.list_items.ensures.listing_after;
    })
