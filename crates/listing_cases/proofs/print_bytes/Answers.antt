use borrow.Author.Rules.{rules}
use Rattle.listing_cases.proofs.Cases.{text-listable}
use Rattle.listing_cases.proofs.print_bytes.Goals as goal

pub print_listing-requires : goal.print_listing-requires
print_listing-requires g c = text-listable _ (search rules)
