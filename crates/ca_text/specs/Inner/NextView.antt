-- What contracts see of what follows a head.
use Rattle.ca_text.specs.Inner.Reading.{Next, Head, Inner, Last}
use Rattle.ca_text.specs.declared.read.Next.{Next as Found}
use Rattle.ca_text.specs.declared.read.Next.TheVariants as found

abbrev pub next_view : Found → Next
next_view (found.Head rest) = Head rest.now
next_view (found.Inner rest) = Inner rest.now
next_view (found.Last tail rest) = Last tail rest.now
