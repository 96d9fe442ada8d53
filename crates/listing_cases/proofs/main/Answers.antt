use Rattle.std.proofs.Common.{refl, arith}
use Rattle.text.specs.Basic.{sum}
use Rattle.items.specs.Lines.{kind_names, digits, decimal, escaped_byte, escaped, described, record_lines}
use Rattle.items.specs.Records.{bytes, decoded, item_of}
use Rattle.listing.specs.Examples.{one_items}
use Rattle.listing.proofs.Listable.{listable}
use Rattle.listing_cases.specs.Cases.{every_items}
use Rattle.listing_cases.proofs.main.Goals as goal

pub print_listing-requires : goal.print_listing-requires
unfolding kind_names bytes decoded item_of sum record_lines escaped_byte escaped described digits decimal
print_listing-requires c = listable _ _ _ one_items refl refl (omega arith)

pub print_listing-requires-2 : goal.print_listing-requires-2
unfolding kind_names bytes decoded item_of sum record_lines escaped_byte escaped described digits decimal
print_listing-requires-2 c = listable _ _ _ every_items refl refl (omega arith)

pub print_beginning-requires : goal.print_beginning-requires
unfolding kind_names bytes decoded item_of sum record_lines escaped_byte escaped described digits decimal
print_beginning-requires c = listable _ _ _ one_items refl refl (omega arith)
